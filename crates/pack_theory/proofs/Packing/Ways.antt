-- One law for each way through the small functions of the packer.
-- Assumes nothing.
use Prim.Native.Nat.{ℕ, ◌+◌, ◌-◌, ◌/◌, ◌≤◌, ◌<◌}
use mathlib.Core.Bool.{Bool, true, false}
use mathlib.Core.List.{List}
use mathlib.Core.Path.{◌≡◌, sym, ap, ap₂, ◌∙◌, subst}
use lib.ListN.{length, set}
use lib.Seq.{sets}
use borrow.Author.Tests.{le-leb}
use Rattle.rules.specs.Across.{Across}
use Rattle.rules.specs.Across.{Found, Nothing}
use Rattle.rules.specs.declared.Operation.TheVariants.{Border}
use Rattle.rules.specs.Packed.{Packed}
use Rattle.rules.specs.Packed as P
use Rattle.rules.specs.declared.Counts.{Counts}
use Rattle.rules.specs.Triangle.{triangles_of}
use Rattle.rules.specs.Across.{across}
use Rattle.rules.specs.Order.{number_found}
use Rattle.rules.specs.Buffer.{over}
use Rattle.wire_theory.specs.Header.{header_of}
use Rattle.wire_theory.specs.Buffer.{bytes_for}
use Rattle.mesh_theory.specs.Chains.Linked.{Finds}
use Rattle.mesh_theory.proofs.Chains.Finding.{linked_found}
use Rattle.cutborder.specs.declared.Loops.{Loops}
use Rattle.border_theory.specs.Memory.Layout.{vertex_of, after_of}
use Rattle.pack_theory.specs.Choosing.Choosable.{flag_of, Choosable}
use Rattle.cutborder.specs.declared.Course.{Course}
use Rattle.cutborder.specs.declared.Move.{Move}
use Rattle.pack_theory.specs.Packing.Ran.{Ran}
use Rattle.pack_theory.specs.Packing.Ran as R
use Rattle.pack_theory.specs.Packing.Course.{start_of, end_of, is_numbered, placed_by, flags_by, move_by, move_of, flags_of}
use Rattle.pack_theory.specs.Packing.Course.{Chooses}
use Rattle.pack_theory.specs.Packing.Order.{order_of, Notable}
use Rattle.pack_theory.specs.Packing.Finish.{counts_at, fits_buffer, answer_if, finish_answer, numbers_if, finish_numbers, pack_if}
use Rattle.pack_theory.specs.Packing.Finish.{finish_pack, Sized}

-- ---- what is taken

module _ (xs cs fs ns m : List ℕ) (l : Loops) (h : Chooses xs cs fs ns m l) (f a b : ℕ) (ef : f ≡ after_of m l.current)
    (ea : a ≡ vertex_of m l.current)
    (eb : b ≡ vertex_of m f) (r : Across) (fd : Finds xs cs b a r) where
  to_end : b ≡ end_of l m
  to_end = eb ∙ ap (vertex_of m) ef

  across_is : r ≡ across (end_of l m) (start_of l m) (triangles_of xs)
  across_is =
      linked_found xs cs h.linked b a r fd (λ q. h.apart (sym to_end ∙ q ∙ ea))
      ∙ ap₂ (λ (x y : ℕ). across x y (triangles_of xs)) to_end ea

  pub chosen_none : r ≡ Nothing
      → (record { operation = Border; vertex = 0; fresh = false } ≡ move_of xs fs ns m l) × (fs ≡ flags_of xs fs m l)
  unfolding move_of flags_of
  chosen_none q = (ap (move_by xs fs ns m l) (sym q ∙ across_is), ap (flags_by fs) (sym q ∙ across_is))

  pub chosen_flag : (n k c : ℕ) → r ≡ Found n k c → n < 8192
  chosen_flag n k c q = (h.found n k c (sym across_is ∙ q)).flag

  pub chosen_place : (n k c : ℕ) → r ≡ Found n k c → (c < length ns) × Choosable xs cs (set fs n 1) m l a b c
  chosen_place n k c q =
      let w = h.found n k c (sym across_is ∙ q) in (
        w.entry,
        subst (λ (x : ℕ). Choosable xs cs (set fs n 1) m l x b c) (sym ea)
            (subst (λ (y : ℕ). Choosable xs cs (set fs n 1) m l (start_of l m) y c) (sym to_end) w.place),
      )

  -- the order's entry k
  pub noted_none : (os : List ℕ) (k : ℕ) → r ≡ Nothing → os ≡ order_of xs os k m l
  unfolding order_of
  noted_none os k q = ap (λ (x : Across). sets os k (number_found x)) (sym q ∙ across_is)

  pub noted_entry : (os : List ℕ) (k : ℕ) → Notable xs os k m l → (n j c : ℕ) → r ≡ Found n j c → k < length os
  noted_entry os k w n j c q = w n j c (sym across_is ∙ q)

  pub noted_found : (os : List ℕ) (k n j c : ℕ) → r ≡ Found n j c → set os k n ≡ order_of xs os k m l
  unfolding order_of
  noted_found os k n j c q = ap (λ (x : Across). sets os k (number_found x)) (sym q ∙ across_is)

  pub chosen_found : (n k c : ℕ) → r ≡ Found n k c → (mv : Move) → mv ≡ placed_by (is_numbered ns c) xs (set fs n 1) m l a b c
      → (mv ≡ move_of xs fs ns m l) × (set fs n 1 ≡ flags_of xs fs m l)
  unfolding move_of flags_of
  chosen_found n k c q mv e = (
    e ∙ ap₂ (λ (x y : ℕ). placed_by (is_numbered ns c) xs (set fs n 1) m l x y c) ea to_end ∙ ap (move_by xs fs ns m l) (sym q ∙ across_is),
    ap (flags_by fs) (sym q ∙ across_is),
  )

-- ---- the lowest triangle left

-- none from k up to i is left
pub record Seeking (fs : List ℕ) (k n i : ℕ) : Type 0 where
  pub upto : i ≤ n
  pub few : n ≤ 8192
  pub built : (j : ℕ) → k ≤ j → j < i → flag_of fs j ≡ 0 → ⊥

-- ---- the end

module _ (end : Ran) (v k : ℕ) (ns bs os : List ℕ) where
  -- the answer and the three buffers after the end
  abbrev EndsWith : Packed → List ℕ → List ℕ → List ℕ → Type 0
  EndsWith r ns' bs' os' =
      (r ≡ finish_answer end (length bs))
      × ((ns' ≡ finish_numbers end v (length bs) ns)
      × ((bs' ≡ finish_pack end v k bs) × (os' ≡ finish_numbers end k (length bs) os)))

  module _ (t : Course) (at : ℕ) (e : end ≡ R.Ended t at) where
    numbers_if_lem : (b : Bool) → fits_buffer at (length bs) ≡ b → (n : ℕ) (qs : List ℕ)
        → finish_numbers end n (length bs) qs ≡ numbers_if b n qs
    numbers_if_lem b q n qs =
        ap (λ (w : Ran). finish_numbers w n (length bs) qs) e ∙ ap (λ (x : Bool). numbers_if x n qs) q

    pack_if_lem : (b : Bool) → fits_buffer at (length bs) ≡ b → finish_pack end v k bs ≡ pack_if b (counts_at v k t) (bytes_for at - 14) bs
    pack_if_lem b q = ap (λ (w : Ran). finish_pack w v k bs) e ∙ ap (λ (x : Bool). pack_if x (counts_at v k t) (bytes_for at - 14) bs) q

    answer_if_lem : (b : Bool) → fits_buffer at (length bs) ≡ b → finish_answer end (length bs) ≡ answer_if b (bytes_for at)
    answer_if_lem b q = ap (λ (w : Ran). finish_answer w (length bs)) e ∙ ap (λ (x : Bool). answer_if x (bytes_for at)) q

    pub finish_whole : (at + 7) / 8 ≤ length bs → (c : Counts) → c ≡ counts_at v k t → (bs' : List ℕ)
        → bs' ≡ over (header_of c ((at + 7) / 8 - 14)) bs → EndsWith (P.Length ((at + 7) / 8)) ns bs' os
    finish_whole l c ec bs' eb =
        let q : fits_buffer at (length bs) ≡ true = le-leb (bytes_for at) (length bs) l in (
          sym (answer_if_lem true q),
          (
            sym (numbers_if_lem true q v ns),
            (
              eb ∙ ap (λ (w : Counts). over (header_of w ((at + 7) / 8 - 14)) bs) ec ∙ sym (pack_if_lem true q),
              sym (numbers_if_lem true q k os),
            ),
          ),
        )

-- the bit position is one of a pack
pub finish_sized : (end : Ran) (t : Course) (at : ℕ) → end ≡ R.Ended t at → Sized end → (112 ≤ at) × (at ≤ 655492)
finish_sized end t at e h = subst Sized e h
