-- Claim 4: what a packing depends on, and what its pack states.
-- Assumes nothing.
use Prim.Native.Nat.{ℕ}
use mathlib.Core.Bool.{Bool, true, false, ◌&&◌}
use mathlib.Core.List.{List}
use mathlib.Core.Path.{◌≡◌, refl, sym, ap, ap₂, ◌∙◌}
use lib.ListN.{length, take, drop}
use lib.Seq.{take_at}
use lib.Dec.{leb}
use Rattle.rules.specs.declared.Triangle.{Triangle}
use Rattle.rules.specs.Checked.{Checked}
use Rattle.rules.specs.Checked.{Accepted, Refused}
use Rattle.rules.specs.Limits.{max_places}
use Rattle.rules.specs.Triangle.{triangles_of}
use Rattle.rules.specs.Check.{check}
use Rattle.rules.specs.Ring.{places}
use Rattle.rules.specs.Answer.{Answer, refusal, packed}
use Rattle.rules.specs.Bits.{bytes_of}
use Rattle.rules.specs.Code.{operations_bits}
use Rattle.rules.specs.Fields.{fields, fields_of}
use Rattle.rules.specs.Choice.{Packing}
use Rattle.rules.specs.Pack.{Chosen, stopped, chosen, most, chosen_for, order_for, pack_of, new_numbers, PackBuffers, PackResult}
use Rattle.rules.specs.Pack.{PackContents}
use Rattle.rules.specs.Pack.{pack_done, pack_refused, pack_stored, contents_of, pack_chosen, pack_long_enough, order_long_enough}
use Rattle.rules.specs.Pack.{pack_checked, pack}
use Rattle.rules.specs.Pack as P
use Rattle.roundtrip.specs.Run.{run_loops, peak_of}
use Rattle.roundtrip.specs.Claims.{SameInAllBuffers, SameAnswerInAllBuffers, StatedPeaksAreTrue}
use Rattle.roundtrip.proofs.Numbers.{length_new}
use Rattle.roundtrip.proofs.Limits.{run_ends, chosen_same}
use Rattle.roundtrip.proofs.Results.{PackedBy, packed_by}
use Rattle.roundtrip.proofs.Forth.{found}
use Rattle.roundtrip.proofs.Each.{front_bytes, front_order}

front_numbers : (v : ℕ) (xs : List ℕ) (r : PackBuffers) (n : ℕ) (p : PackedBy most v xs r n)
    → take v (pack v xs r).buffers.numbering ≡ new_numbers v p.last.numbered
front_numbers v xs r n p =
    let ns = new_numbers v p.last.numbered in
    ap (λ (x : PackResult). take v x.buffers.numbering) p.result
    ∙ take_at ns (drop (length ns) r.numbering) v (length_new v p.last.numbered)

pub same_in_all_buffers : SameInAllBuffers
same_in_all_buffers v xs r r' n n' e e' =
    let p = packed_by most v xs r n e in
    let p' = packed_by most v xs r' n' e' in
    let c : chosen p.operations p.last ≡ chosen p'.operations p'.last = sym p.chose ∙ p'.chose in
    let o : p.operations ≡ p'.operations = cc in
    let s : p.last ≡ p'.last = cc in
    let b : pack_of v (triangles_of xs) p.operations p.last ≡ pack_of v (triangles_of xs) p'.operations p'.last =
    ap₂ (pack_of v (triangles_of xs)) o s in (
      p.long ∙ (ap length b ∙ sym p'.long),
      front_bytes v xs r n p ∙ (b ∙ sym (front_bytes v xs r' n' p')),
      front_numbers v xs r n p ∙ (ap (λ (k : Packing). new_numbers v k.numbered) s ∙ sym (front_numbers v xs r' n' p')),
      front_order v xs r n p ∙ sym (front_order v xs r' n' p'),
    )

-- the answer looks at the buffers' lengths only
abbrev answer : PackResult → Answer
answer p = p.answer

stored_answer : (v : ℕ) (ts : List Triangle) (w : PackContents) (r r' : PackBuffers) → length r.pack ≡ length r'.pack
    → (pack_stored v ts w r).answer ≡ (pack_stored v ts w r').answer
stored_answer v ts w r r' e =
    by r (leb (length w.pack) (length r.pack))
    ∙ (ap (λ (k : ℕ). elim (leb (length w.pack) k) [ true ↦ packed (length w.pack) | false ↦ refusal 11 ]) e
    ∙ sym (by r' (leb (length w.pack) (length r'.pack))))
  where
    by : (q : PackBuffers) (t : Bool)
        → answer (elim t [ true ↦ pack_done w q | false ↦ pack_refused 11 v ts q ])
        ≡ elim t [ true ↦ packed (length w.pack) | false ↦ refusal 11 ]
    by q true = refl
    by q false = refl

chosen_answer : (v : ℕ) (ts : List Triangle) (r r' : PackBuffers) (qs : List ℕ) (c : Chosen) → length r.pack ≡ length r'.pack
    → (pack_chosen v ts r qs c).answer ≡ (pack_chosen v ts r' qs c).answer
unfolding pack_chosen
chosen_answer v ts r r' qs (stopped n) e = refl
chosen_answer v ts r r' qs (chosen os s) e = stored_answer v ts (contents_of v ts qs os s) r r' e

checked_answer_lem : (v : ℕ) (ts : List Triangle) (r r' : PackBuffers) (c : Checked) → pack_long_enough v r ≡ pack_long_enough v r'
    → order_long_enough ts r ≡ order_long_enough ts r' → length r.pack ≡ length r'.pack
    → (pack_checked most v ts r c).answer ≡ (pack_checked most v ts r' c).answer
unfolding pack_checked
checked_answer_lem v ts r r' (Refused n) k l e = refl
checked_answer_lem v ts r r' Accepted k l e =
    same (pack_long_enough v r) (order_long_enough ts r) ∙ ap₂ (λ (t u : Bool). answer (by t u r')) k l
  where
    by : Bool → Bool → PackBuffers → PackResult
    by t u q =
        elim t [
          | true ↦ elim u [ true ↦ pack_chosen v ts q (order_for most ts) (chosen_for most ts) | false ↦ P.turned_down 22 q ]
          | false ↦ P.turned_down 8 q
        ]

    same : (t u : Bool) → answer (by t u r) ≡ answer (by t u r')
    same true true = chosen_answer v ts r r' (order_for most ts) (chosen_for most ts) e
    same true false = refl
    same false u = refl

pub same_answer_in_all_buffers : SameAnswerInAllBuffers
same_answer_in_all_buffers v xs r r' a b c d =
    checked_answer_lem v (triangles_of xs) r r' (check v xs) (ap₂ (λ (k l : ℕ). leb v k && leb max_places l) a b)
    (ap (leb (length (triangles_of xs))) d) c

pub stated_peaks_are_true : StatedPeaksAreTrue
stated_peaks_are_true v xs r n e =
    let p = packed_by most v xs r n e in
    let ts = triangles_of xs in
    let k = chosen_same most ts p.operations p.last p.chose in
    let a : p.last.most_places ≡ peak_of places 0 (run_loops ts) = ap (λ (x : Packing). x.most_places) k.2 ∙ (run_ends ts).places in
    let b : p.last.most_loops ≡ peak_of length 0 (run_loops ts) = ap (λ (x : Packing). x.most_loops) k.2 ∙ (run_ends ts).loops in (
      bytes_of (operations_bits p.operations),
      ap fields_of (front_bytes v xs r n p)
          ∙ (found v xs p.operations p.last p.accepted p.chose
          ∙ ap₂ (λ (x y : ℕ). fields (record { vertices = v; triangles = length ts; places = x; loops = y })
          (bytes_of (operations_bits p.operations))) a b),
    )
