-- Unpacking a pack that may have positions: the core of two fields, and 23.
-- Assumes nothing.
use Prim.Native.Nat.{ℕ, ◌*◌, ◌≤◌}
use native.Mathlib.Omega.{arith}
use mathlib.Core.Bool.{Bool, true, false}
use mathlib.Core.List.{List, ◌++◌}
use mathlib.Core.Path.{◌≡◌, refl, sym, ap, ◌∙◌, subst}
use lib.ListN.{length, take, drop, replicate, length-take}
use lib.Seq.{drop_at}
use Rattle.rules.specs.declared.Model.{Model}
use Rattle.rules.specs.Unpacked.{Unpacked}
use Rattle.rules.specs.Unpacked as U
use Rattle.rules.specs.Answer.{Answer, refusal, unpacked, unpacked_answer}
use Rattle.rules.specs.Buffer.{zeroed, Buffers}
use Rattle.rules.specs.Unpack.{numbers_of, UnpackResult, unpack}
use Rattle.rules.specs.Later.{Given, given, Parts, no_parts, parts, parts_of}
use Rattle.rules.specs.UnpackWhole.{field_fits, model_in, left_by20, then_tested, unpack_parts}
use borrow.Author.Tests.{leb-true}
use Rattle.counting.proofs.Bools.{and_left}
use Rattle.border_theory.specs.Records.Lent.{lent}
use Rattle.unpack_theory.specs.Lent.{UnpackedOn}
use Rattle.mesh_theory.proofs.Chains.Prefix.{length_numbers}
use Rattle.roundtrip.proofs.Results.{unpacked_by}
use Rattle.roundtrip.proofs.Back.{triangles_are, list_is}
use Rattle.volume_theory.proofs.Whole.{accepts}
use Rattle.positions_theory.specs.Unpacking.{UnpackedWholeOn, tested_answer, tested_triangles, positions_test, always, TestTold}

-- the buffer of an accepted unpacking, past its triangles
beyond : (bytes : List ℕ) (r : Buffers) (m : Model) → (unpack bytes r).answer ≡ unpacked m
    → drop (3 * m.triangles) (unpack bytes r).buffers.triangles ≡ drop (3 * m.triangles) r.triangles
beyond bytes r m e =
    let u = unpacked_by bytes r m e in
    let xs = numbers_of u.end.triangles in
    let l : length xs ≡ 3 * m.triangles = length_numbers u.end.triangles ∙ ap (λ (k : ℕ). 3 * k) (triangles_are bytes r m u) in
    ap (λ (x : UnpackResult). drop (3 * m.triangles) x.buffers.triangles) u.result
    ∙ drop_at xs (drop (length xs) r.triangles) (3 * m.triangles) l ∙ ap (λ (k : ℕ). drop k r.triangles) l

pub zeroed_same : (n : ℕ) (ts us : List ℕ) → drop n us ≡ drop n ts → zeroed n us ≡ zeroed n ts
zeroed_same n ts us e = ap (λ (vs : List ℕ). replicate n 0 ++ vs) e

-- no fields
pub no_parts_on : (bytes ts : List ℕ) (n : ℕ) → parts_of bytes ≡ no_parts → UnpackedWholeOn bytes ts n (U.Refused 12) ts
unfolding unpack_parts
no_parts_on bytes ts n e = record {
  answer = sym (ap (λ (p : Parts). (unpack_parts (lent n ts) p).answer) e);
  triangles = sym (ap (λ (p : Parts). (unpack_parts (lent n ts) p).buffers.triangles) e);
}

-- a test after an unpacking u into the buffer ts, which leaves what stands past the triangles of an accepted model
module _ (k : ℕ) (fits : Model → Bool) (ts : List ℕ) (n : ℕ) (u : UnpackResult)
    (beyond : (m : Model) → u.answer ≡ unpacked m
    → drop (3 * m.triangles) u.buffers.triangles ≡ drop (3 * m.triangles) ts) where
  by_answer : (a : Answer) → a ≡ u.answer
      → then_tested k fits (lent n ts) u (model_in u.answer) ≡ then_tested k fits (lent n ts) u (model_in a)
  by_answer a f = ap (λ (x : Answer). then_tested k fits (lent n ts) u (model_in x)) (sym f)

  pub tested_on : (r : Unpacked) (ts' : List ℕ) → unpacked_answer r ≡ u.answer → ts' ≡ u.buffers.triangles
      → (unpacked_answer (tested_answer k fits r) ≡ (then_tested k fits (lent n ts) u (model_in u.answer)).answer)
      × (tested_triangles fits r ts' ≡ (then_tested k fits (lent n ts) u (model_in u.answer)).buffers.triangles)
  unfolding then_tested
  tested_on (U.Refused j) ts' a b =
      let w = by_answer (refusal j) a in
      (a ∙ sym (ap (λ (x : UnpackResult). x.answer) w), b ∙ sym (ap (λ (x : UnpackResult). x.buffers.triangles) w))
  tested_on (U.Gives m) ts' a b = go (fits m) refl
    where
      w : then_tested k fits (lent n ts) u (model_in u.answer) ≡ then_tested k fits (lent n ts) u (given m)
      w = by_answer (unpacked m) a

      w_by : (t : Bool) → UnpackResult
      w_by t = elim t [ true ↦ u | false ↦ record { answer = refusal k; buffers = left_by20 m (lent n ts) } ]

      go : (t : Bool) → fits m ≡ t
          → (unpacked_answer (elim t [ true ↦ U.Gives m | false ↦ U.Refused k ])
          ≡ (then_tested k fits (lent n ts) u (model_in u.answer)).answer)
          × (elim t [ true ↦ ts' | false ↦ zeroed (3 * m.triangles) ts' ]
          ≡ (then_tested k fits (lent n ts) u (model_in u.answer)).buffers.triangles)
      go true f =
          let v = w ∙ ap w_by f in
          (a ∙ sym (ap (λ (x : UnpackResult). x.answer) v), b ∙ sym (ap (λ (x : UnpackResult). x.buffers.triangles) v))
      go false f =
          let v = w ∙ ap w_by f in (
            sym (ap (λ (x : UnpackResult). x.answer) v),
            zeroed_same (3 * m.triangles) ts ts' (ap (drop (3 * m.triangles)) b ∙ beyond m (sym a))
                ∙ sym (ap (λ (x : UnpackResult). x.buffers.triangles) v),
          )

-- the outcome is that of the test, if there is a model
module _ (fits : Model → Bool) (b : Bool) where
  pub told_answer : (k : ℕ) (r : Unpacked) → TestTold fits r b → tested_answer k (always b) r ≡ tested_answer k fits r
  told_answer k (U.Gives m) h = ap (λ (t : Bool). elim t as (λ _. Unpacked) [ true ↦ U.Gives m | false ↦ U.Refused k ]) (h m refl)
  told_answer k (U.Refused j) h = refl

  pub told_triangles : (r : Unpacked) (ts : List ℕ) → TestTold fits r b → tested_triangles (always b) r ts ≡ tested_triangles fits r ts
  told_triangles (U.Gives m) ts h =
      ap (λ (t : Bool). elim t as (λ _. List ℕ) [ true ↦ ts | false ↦ zeroed (3 * m.triangles) ts ]) (h m refl)
  told_triangles (U.Refused j) ts h = refl

  pub model_told : (r : Unpacked) (m : Model) → r ≡ U.Gives m → b ≡ fits m → TestTold fits r b
  model_told r m e h n f = let q : U.Gives m ≡ U.Gives n = sym e ∙ f in let p : m ≡ n = cc in h ∙ ap fits p

-- what is answered and left is the definition's
pub as_told : (bytes ts : List ℕ) (n : ℕ) (r s : Unpacked) (us vs : List ℕ) → UnpackedWholeOn bytes ts n s vs → r ≡ s → us ≡ vs
    → UnpackedWholeOn bytes ts n r us
as_told bytes ts n r s us vs h e f = record { answer = ap unpacked_answer e ∙ h.answer; triangles = f ∙ h.triangles }

-- the first two fields are unpacked, then 23 is tested
module _ (bytes two : List ℕ) (ps : Given (List ℕ)) (ts : List ℕ) (n : ℕ) (e : parts_of bytes ≡ parts two ps) where
  parts_on : (r : Unpacked) (ts' : List ℕ) → UnpackedOn two ts n r ts'
      → UnpackedWholeOn bytes ts n (tested_answer 23 (positions_test ps) r) (tested_triangles (positions_test ps) r ts')
  unfolding unpack_parts
  parts_on r ts' h =
      let w = ap (unpack_parts (lent n ts)) e in
      let t = tested_on 23 (positions_test ps) ts n (unpack two (lent n ts)) (beyond two (lent n ts)) r ts' h.answer h.triangles in
      record {
        answer = t.0 ∙ sym (ap (λ (x : UnpackResult). x.answer) w);
        triangles = t.1 ∙ sym (ap (λ (x : UnpackResult). x.buffers.triangles) w);
      }

  pub parts_refused : (k : ℕ) (ts' : List ℕ) → UnpackedOn two ts n (U.Refused k) ts' → UnpackedWholeOn bytes ts n (U.Refused k) ts'
  parts_refused k ts' h = parts_on (U.Refused k) ts' h

  -- after a test of the model with the outcome b
  pub parts_tested : (m : Model) (ts' : List ℕ) → UnpackedOn two ts n (U.Gives m) ts' → (b : Bool) → b ≡ field_fits m.vertices ps
      → (s : Unpacked) (us : List ℕ) → s ≡ tested_answer 23 (always b) (U.Gives m) → us ≡ tested_triangles (always b) (U.Gives m) ts'
      → UnpackedWholeOn bytes ts n s us
  parts_tested m ts' h b f s us p q =
      let t = model_told (positions_test ps) b (U.Gives m) m refl f in
      as_told bytes ts n s _ us _ (parts_on (U.Gives m) ts' h) (p ∙ told_answer (positions_test ps) b 23 (U.Gives m) t)
      (q ∙ told_triangles (positions_test ps) b (U.Gives m) ts' t)

-- three
pub three_parts_on : (bytes two bs ts : List ℕ) (n : ℕ) → parts_of bytes ≡ parts two (given bs) → (r : Unpacked) (ts' : List ℕ)
    → UnpackedOn two ts n r ts'
    → UnpackedWholeOn bytes ts n (tested_answer 23 (positions_test (given bs)) r) (tested_triangles (positions_test (given bs)) r ts')
three_parts_on bytes two bs ts n e = parts_on bytes two (given bs) ts n e

-- the buffer holds the triangles of an accepted unpacking
pub model_long : (bytes ts : List ℕ) (n : ℕ) (m : Model) (ts' : List ℕ) → UnpackedOn bytes ts n (U.Gives m) ts' → length ts' ≡ length ts
    → 3 * m.triangles ≤ length ts'
model_long bytes ts n m ts' h l =
    let u = unpacked_by bytes (lent n ts) m (sym h.answer) in
    let k = leb-true (3 * u.counts.triangles) (length ts) (and_left _ _ u.enough) in
    omega (arith, l, k, ap (λ (x : Model). x.triangles) u.model)

-- the triangle buffer of an accepted one, past its triangles, whatever the parts
pub whole_beyond : (bytes ts : List ℕ) (n : ℕ) (m : Model) (ts' : List ℕ) → UnpackedWholeOn bytes ts n (U.Gives m) ts'
    → drop (3 * m.triangles) ts' ≡ drop (3 * m.triangles) ts
whole_beyond bytes ts n m ts' h =
    let a = accepts bytes (lent n ts) m (sym h.answer) in
    ap (drop (3 * m.triangles)) (h.triangles ∙ ap (λ (x : UnpackResult). x.buffers.triangles) a.same)
    ∙ beyond a.two (lent n ts) m a.accepted

-- the buffer holds the triangles of an accepted one
pub whole_long : (bytes ts : List ℕ) (n : ℕ) (m : Model) (ts' : List ℕ) → UnpackedWholeOn bytes ts n (U.Gives m) ts'
    → 3 * m.triangles ≤ length ts'
whole_long bytes ts n m ts' h =
    let a = accepts bytes (lent n ts) m (sym h.answer) in
    let by = unpacked_by a.two (lent n ts) m a.accepted in
    let same = h.triangles ∙ ap (λ (x : UnpackResult). x.buffers.triangles) a.same in
    let e : length (take (3 * m.triangles) ts') ≡ 3 * m.triangles =
    ap (λ (us : List ℕ). length (take (3 * m.triangles) us)) same ∙ ap length (list_is a.two (lent n ts) m by)
    ∙ length_numbers by.end.triangles ∙ ap (λ (k : ℕ). 3 * k) (triangles_are a.two (lent n ts) m by) in
    omega (arith, e, length-take (3 * m.triangles) ts')
