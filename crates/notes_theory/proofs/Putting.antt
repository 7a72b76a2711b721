-- The field of a note, written over a buffer.
-- Assumes nothing.
use Prim.Native.Nat.{ℕ, ◌+◌, ◌/◌, ◌%◌, ◌≤◌}
use native.Mathlib.Omega.{arith}
use mathlib.Core.List.{List, [], ◌∷◌, ◌++◌, append_assoc}
use mathlib.Core.Path.{◌≡◌, sym, ap, ap₂, ◌∙◌}
use lib.ListN.{length, take, drop, length-append}
use lib.Seq.{length-take-le, take_at, drop_at, drop-drop}
use Rattle.rules.specs.Fields.{field_of}
use Rattle.rules.specs.Limits.{max_note}
use Rattle.rules.specs.Note.{note_tag}
use Rattle.notes_theory.specs.Packing.{put_at}

-- one after the other
pub put_twice : (bs us ws : List ℕ) (n : ℕ) → n + length us ≤ length bs
    → put_at (put_at bs n us) (n + length us) ws ≡ put_at bs n (us ++ ws)
put_twice bs us ws n h =
    let rest = drop (n + length us) bs in
    let front = take n bs ++ us in
    let l : length front ≡ n + length us = length-append (take n bs) us ∙ omega (arith, length-take-le n bs (omega arith)) in
    let whole : put_at bs n us ≡ front ++ rest = sym (append_assoc (take n bs) us rest) in
    let a : take (n + length us) (put_at bs n us) ≡ front = ap (take (n + length us)) whole ∙ take_at front rest (n + length us) l in
    let sum : n + length us + length ws ≡ n + length (us ++ ws) = omega (arith, length-append us ws) in
    let b : drop (n + length us + length ws) (put_at bs n us) ≡ drop (n + length (us ++ ws)) bs =
    sym (drop-drop (length ws) (n + length us) (put_at bs n us))
    ∙ ap (drop (length ws)) (ap (drop (n + length us)) whole ∙ drop_at front rest (n + length us) l)
    ∙ drop-drop (length ws) (n + length us) bs
    ∙ ap (λ (k : ℕ). drop k bs) sum in
    ap₂ (λ (x y : List ℕ). x ++ (ws ++ y)) a b ∙ append_assoc (take n bs) us (ws ++ drop (n + length (us ++ ws)) bs)
    ∙ ap (λ (x : List ℕ). take n bs ++ x) (sym (append_assoc us ws (drop (n + length (us ++ ws)) bs)))

-- the three bytes of the header, then the note
pub put_field : (bs ns us vs : List ℕ) (n l : ℕ) → length ns ≤ max_note → l ≡ length ns → n + 3 ≤ length bs
    → us ≡ put_at bs n (note_tag ∷ (0 ∷ (l ∷ []))) → vs ≡ put_at us (n + 3) ns → vs ≡ put_at bs n (field_of note_tag ns)
put_field bs ns us vs n l h k r e f =
    let a : 0 ≡ length ns / 256 % 256 = omega arith in
    let b : l ≡ length ns % 256 = omega arith in
    f ∙ ap (λ (x : List ℕ). put_at x (n + 3) ns) e ∙ put_twice bs (note_tag ∷ (0 ∷ (l ∷ []))) ns n r
    ∙ ap₂ (λ (x y : ℕ). put_at bs n (note_tag ∷ (x ∷ (y ∷ ns)))) a b
