-- The numbering buffer: what is read there, what a new number stored there gives, and what it holds in the end.
-- Assumes nothing.
use Prim.Native.Nat.{ℕ, zero, suc, ◌<◌}
use native.Mathlib.Omega.{arith}
use mathlib.Core.Bool.{Bool, true, false, false≢true}
use mathlib.Core.List.{List, [], ◌∷◌, ◌++◌}
use mathlib.Core.Path.{◌≡◌, refl, sym, ap, ◌∙◌}
use lib.ListN.{length, get_or, set, replicate, length-append, length-set, length-replicate, get_or-append, get_or-replicate}
use lib.Seq.{get_or_at, ext_get_or, set-append_left, get_or-set_same, get_or-set_other}
use lib.Dec.{eqb}
use borrow.Author.Tests.{eqb-true, eqb-false}
use Rattle.rules.specs.Choice.{has}
use Rattle.rules.specs.Pack.{index_of, new_numbers}
use Rattle.choice_theory.proofs.Places.Numbering.{has_left, has_not, has_last, index_next}
use Rattle.pack_theory.specs.Packing.Numbers.{unnumbered, entry_of, entries}

pub entries_length : (n : ℕ) (vs : List ℕ) → length (entries n vs) ≡ n
unfolding entries
entries_length zero vs = refl
entries_length (suc n) vs = omega (arith, length-append (entries n vs) (entry_of n vs ∷ []), entries_length n vs)

pub entries_at : (n : ℕ) (vs : List ℕ) (x : ℕ) → x < n → get_or (entries n vs) x 0 ≡ entry_of x vs
unfolding entries
entries_at zero vs x h = absurd (omega arith)
entries_at (suc n) vs x h = go (eqb x n) refl (entries_at n vs x)
  where
    go : (t : Bool) → eqb x n ≡ t → (x < n → get_or (entries n vs) x 0 ≡ entry_of x vs)
        → get_or (entries n vs ++ (entry_of n vs ∷ [])) x 0 ≡ entry_of x vs
    go true e ih =
        let q : x ≡ n = eqb-true x n e in
        get_or_at (entries n vs) (entry_of n vs) [] 0 x (entries_length n vs ∙ sym q) ∙ ap (λ (k : ℕ). entry_of k vs) (sym q)
    go false e ih =
        let l : x < n = omega (arith, h, eqb-false x n e) in
        get_or-append (entries n vs) (entry_of n vs ∷ []) 0 x (omega (arith, entries_length n vs)) ∙ ih l

-- what a buffer that begins with the entries has at a vertex
pub entry_read : (n : ℕ) (vs rest ns : List ℕ) (x : ℕ) → ns ≡ entries n vs ++ rest → x < n → get_or ns x 0 ≡ entry_of x vs
entry_read n vs rest ns x e h =
    ap (λ (l : List ℕ). get_or l x 0) e ∙ get_or-append (entries n vs) rest 0 x (omega (arith, entries_length n vs)) ∙ entries_at n vs x h

entry_by : (x : ℕ) (vs : List ℕ) (t : Bool) → has x vs ≡ t → entry_of x vs ≡ elim t [ true ↦ index_of x vs | false ↦ unnumbered ]
unfolding entry_of
entry_by x vs t e = ap (λ (b : Bool). elim b [ true ↦ index_of x vs | false ↦ unnumbered ]) e

pub entry_some : (x : ℕ) (vs : List ℕ) → has x vs ≡ true → entry_of x vs ≡ index_of x vs
entry_some x vs h = entry_by x vs true h

pub entry_none : (x : ℕ) (vs : List ℕ) → has x vs ≡ false → entry_of x vs ≡ unnumbered
entry_none x vs h = entry_by x vs false h

-- the first numbers stay
index_left : (x : ℕ) (vs ws : List ℕ) → has x vs ≡ true → index_of x (vs ++ ws) ≡ index_of x vs
unfolding has index_of
index_left x [] ws h = absurd (false≢true h)
index_left x (v ∷ vs) ws h = go (eqb x v) (index_left x vs ws) h
  where
    go : (t : Bool) → (has x vs ≡ true → index_of x (vs ++ ws) ≡ index_of x vs)
        → ◌≡◌ {A = Bool} (elim t [ true ↦ true | false ↦ has x vs ]) true
        → ◌≡◌ {A = ℕ} (elim t [ true ↦ 0 | false ↦ suc (index_of x (vs ++ ws)) ]) (elim t [ true ↦ 0 | false ↦ suc (index_of x vs) ])
    go true ih g = refl
    go false ih g = ap suc (ih g)

entry_more : (x c : ℕ) (vs : List ℕ) → (x ≡ c → ⊥) → entry_of x (vs ++ (c ∷ [])) ≡ entry_of x vs
entry_more x c vs d = go (has x vs) refl
  where
    go : (t : Bool) → has x vs ≡ t → entry_of x (vs ++ (c ∷ [])) ≡ entry_of x vs
    go true e = entry_some x (vs ++ (c ∷ [])) (has_left x vs (c ∷ []) e) ∙ index_left x vs (c ∷ []) e ∙ sym (entry_some x vs e)
    go false e = entry_none x (vs ++ (c ∷ [])) (has_not x c vs e d) ∙ sym (entry_none x vs e)

entry_new : (c : ℕ) (vs : List ℕ) → has c vs ≡ false → entry_of c (vs ++ (c ∷ [])) ≡ length vs
entry_new c vs h = entry_some c (vs ++ (c ∷ [])) (has_last c c vs refl) ∙ index_next c vs [] h

-- the next number is given
pub entries_new : (n : ℕ) (vs : List ℕ) (c : ℕ) → c < n → has c vs ≡ false → set (entries n vs) c (length vs) ≡ entries n (vs ++ (c ∷ []))
entries_new n vs c h d =
    ext_get_or 0 (set (entries n vs) c (length vs)) (entries n (vs ++ (c ∷ [])))
    (length-set (entries n vs) c (length vs) ∙ entries_length n vs ∙ sym (entries_length n (vs ++ (c ∷ []))))
    (λ i l. go i (omega (arith, l, length-set (entries n vs) c (length vs), entries_length n vs)) (eqb i c) refl)
  where
    go : (i : ℕ) → i < n → (t : Bool) → eqb i c ≡ t
        → get_or (set (entries n vs) c (length vs)) i 0 ≡ get_or (entries n (vs ++ (c ∷ []))) i 0
    go i l true e =
        let q : i ≡ c = eqb-true i c e in
        ap (λ (k : ℕ). get_or (set (entries n vs) c (length vs)) k 0) q
        ∙ get_or-set_same (entries n vs) c (length vs) 0 (omega (arith, h, entries_length n vs))
        ∙ sym (ap (λ (k : ℕ). get_or (entries n (vs ++ (c ∷ []))) k 0) q ∙ entries_at n (vs ++ (c ∷ [])) c h ∙ entry_new c vs d)
    go i l false e =
        get_or-set_other (entries n vs) c i (length vs) 0 (eqb-false i c e) ∙ entries_at n vs i l
        ∙ sym (entries_at n (vs ++ (c ∷ [])) i l ∙ entry_more i c vs (eqb-false i c e))

pub number_stored : (n : ℕ) (vs rest ns : List ℕ) (c k : ℕ) → ns ≡ entries n vs ++ rest → c < n → has c vs ≡ false → k ≡ length vs
    → set ns c k ≡ entries n (vs ++ (c ∷ [])) ++ rest
number_stored n vs rest ns c k e h d q =
    ap (λ (l : List ℕ). set l c k) e ∙ set-append_left (entries n vs) rest c k (omega (arith, h, entries_length n vs))
    ∙ ap (λ (l : List ℕ). l ++ rest) (ap (set (entries n vs) c) q ∙ entries_new n vs c h d)

-- no vertex has a number yet
pub entries_none : (n : ℕ) → entries n [] ≡ replicate n unnumbered
unfolding has
entries_none n =
    ext_get_or 0 (entries n []) (replicate n unnumbered) (entries_length n [] ∙ sym (length-replicate {A = ℕ} n unnumbered))
    (λ i l. entries_at n [] i (omega (arith, l, entries_length n [])) ∙ entry_none i [] (none i)
    ∙ sym (get_or-replicate {A = ℕ} n i unnumbered 0 (omega (arith, l, entries_length n []))))
  where
    none : (i : ℕ) → has i [] ≡ false
    none i = refl

-- all vertices have one
pub entries_all : (n : ℕ) (vs : List ℕ) → ((x : ℕ) → x < n → has x vs ≡ true) → entries n vs ≡ new_numbers n vs
unfolding entries new_numbers
entries_all zero vs h = refl
entries_all (suc n) vs h =
    ap (λ (l : List ℕ). l ++ (entry_of n vs ∷ [])) (entries_all n vs (λ x l. h x (omega arith)))
    ∙ ap (λ (k : ℕ). new_numbers n vs ++ (k ∷ [])) (entry_some n vs (h n (omega arith)))
