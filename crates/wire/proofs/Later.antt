-- Bytes after a third field, and where the fields at the end of a pack stand in it.
-- Assumes nothing.
use Rattle.std.proofs.Common.{◌≡◌, ℕ, ◌<◌, ◌≤◌, ◌+◌, ◌-◌, List, [], ◌∷◌, length, refl, arith}
use mathlib.Core.List.{◌++◌, append_assoc, append-nil}
use mathlib.Core.Path.{sym, ap, ap₂, ◌∙◌}
use lib.ListN.{drop, length-append}
use lib.Seq.{drop-drop, drop-append_seam}
use Rattle.rules.specs.Fields.{take_field, Field, no_field, field}
use Rattle.rules.specs.Later.{later_part, no_parts}
use Rattle.rules.specs.Note.{past, past_field}
use Rattle.wire_theory.proofs.Note.{found_here}

pub three_then_more : (two us cs ds : List ℕ) → take_field 3 us ≡ field cs ds → 0 < length us → 0 < length ds → later_part two us ≡ no_parts
unfolding later_part
three_then_more two [] cs ds e h k = absurd (omega arith)
three_then_more two (b ∷ bs) cs [] e h k = absurd (omega arith)
three_then_more two (b ∷ bs) cs (d ∷ ds) e h k = rw e refl

-- the bytes zs are those of bs after some others
abbrev AtEnd : List ℕ → List ℕ → Type 0
AtEnd zs bs = (zs ≡ drop (length bs - length zs) bs) × (length zs ≤ length bs)

end_of : (xs zs bs : List ℕ) → bs ≡ xs ++ zs → AtEnd zs bs
end_of xs zs bs e =
    let l : length bs - length zs ≡ length xs = omega (arith, ap length e, length-append xs zs) in
    (sym (drop-append_seam xs zs) ∙ ap₂ drop (sym l) (sym e), omega (arith, ap length e, length-append xs zs))

end_after : (zs ys bs : List ℕ) → AtEnd zs ys → AtEnd ys bs → AtEnd zs bs
end_after zs ys bs h k =
    let n = length bs - length ys in
    let m = length ys - length zs in
    let l : n + m ≡ length bs - length zs = omega (arith, h.1, k.1) in
    (h.0 ∙ ap (drop m) k.0 ∙ drop-drop m n bs ∙ ap (λ (i : ℕ). drop i bs) l, omega (arith, h.1, k.1))

rest_end : (tag : ℕ) (bs cs ds : List ℕ) → take_field tag bs ≡ field cs ds → AtEnd ds bs
rest_end tag bs cs ds e =
    let h = found_here tag bs cs ds e in
    end_of (h.head ++ cs) ds bs (h.from ∙ sym (append_assoc h.head cs ds))

past_end : (tag : ℕ) (bs : List ℕ) → AtEnd (past tag bs) bs
past_end tag bs = go (take_field tag bs) refl
  where
    go : (f : Field) → take_field tag bs ≡ f → AtEnd (past_field bs f) bs
    go no_field e = end_of [] bs bs refl
    go (field cs ds) e = rest_end tag bs cs ds e

-- contents that nothing follows are all but three bytes
last_contents : (tag : ℕ) (us cs ds : List ℕ) → take_field tag us ≡ field cs ds → length ds ≡ 0 → cs ≡ drop 3 us
last_contents tag us cs (d ∷ ds) e n = absurd (omega arith)
last_contents tag us cs [] e n =
    let h = found_here tag us cs [] e in
    sym (append-nil cs) ∙ sym (drop-append_seam h.head (cs ++ [])) ∙ ap₂ drop h.three (sym h.from)

contents_at : (tag : ℕ) (bs us cs ds : List ℕ) → AtEnd us bs → take_field tag us ≡ field cs ds → length ds ≡ 0 → (n : ℕ)
    → n ≡ length bs - length us → cs ≡ drop (n + 3) bs
contents_at tag bs us cs ds h e z n l =
    last_contents tag us cs ds e z ∙ ap (drop 3) (h.0 ∙ ap (λ (i : ℕ). drop i bs) (sym l)) ∙ drop-drop 3 n bs

-- the operations, which nothing follows, in the pack
pub operations_back : (bs cs more os ds : List ℕ) → take_field 1 bs ≡ field cs more → length cs ≡ 8 → take_field 2 more ≡ field os ds
    → length ds ≡ 0 → length cs + length more + 3 ≡ length bs → os ≡ drop 14 bs
operations_back bs cs more os ds e h f z l = contents_at 2 bs more os ds (rest_end 1 bs cs more e) f z 11 (omega arith)

-- the contents of a third field, which nothing follows, in the pack
pub third_back : (bs os more xs us cs ds : List ℕ) → take_field 1 bs ≡ field os more → take_field 2 more ≡ field xs us
    → take_field 3 us ≡ field cs ds → length ds ≡ 0 → (n : ℕ) → n ≡ length bs - length us → cs ≡ drop (n + 3) bs
third_back bs os more xs us cs ds e f g z n l =
    contents_at 3 bs us cs ds (end_after us more bs (rest_end 2 more xs us f) (rest_end 1 bs os more e)) g z n l

-- those of a note
pub note_back : (bs vs ws us ns ds : List ℕ) → vs ≡ past 1 bs → ws ≡ past 2 vs → us ≡ past 3 ws → take_field 4 us ≡ field ns ds
    → length ds ≡ 0 → (n : ℕ) → n ≡ length bs - length us → ns ≡ drop (n + 3) bs
note_back bs vs ws us ns ds e f g k z n l =
    let a : AtEnd vs bs = rw e (past_end 1 bs) in
    let b : AtEnd ws vs = rw f (past_end 2 vs) in
    let c : AtEnd us ws = rw g (past_end 3 ws) in
    contents_at 4 bs us ns ds (end_after us ws bs c (end_after ws vs bs b a)) k z n l
