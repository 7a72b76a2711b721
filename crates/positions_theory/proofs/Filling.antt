-- Words of two bytes, each where its number says: in the end they stand in the order of the numbers.
-- Assumes nothing.
use Prim.Native.Nat.{ℕ, ◌+◌, ◌-◌, ◌*◌, ◌/◌, ◌%◌, ◌≤◌, ◌<◌}
use native.Mathlib.Omega.{arith}
use mathlib.Core.Bool.{Bool, true, false}
use mathlib.Core.List.{List, ◌++◌}
use mathlib.Core.Logic.{◌⊎◌, inl, inr}
use mathlib.Core.Path.{◌≡◌, refl, sym, ap, ◌∙◌, subst}
use lib.Dec.{eqb, ltb}
use lib.IntN.{ℤ}
use lib.ListN.{length, take, drop, get_or, set, length-set, length-append, length-drop}
use lib.Seq.{get_or-set_same, get_or-set_other, get_or-take, get_or-drop, get_or-append-add, length-take-le, ext_get_or}
use borrow.Author.Tests.{eqb-true, eqb-false, ltb-true, ltb-false}
use Rattle.roundtrip.proofs.Numbers.{get_d_front}
use Rattle.positions_theory.specs.Filling.{set_word, Filled, place_of, word_of, Puttable, Put}

past_front : (xs ys : List ℕ) (n i : ℕ) → length xs ≡ n → get_or (xs ++ ys) (n + i) 0 ≡ get_or ys i 0
past_front xs ys n i e = ap (λ (k : ℕ). get_or (xs ++ ys) (k + i) 0) (sym e) ∙ get_or-append-add xs ys i 0

-- one word
module _ (bs : List ℕ) (i w : ℕ) where
  length_word : length (set_word bs i w) ≡ length bs
  length_word = length-set (set bs i (w / 256 % 256)) (i + 1) (w % 256) ∙ length-set bs i (w / 256 % 256)

  high_of : i < length bs → get_or (set_word bs i w) i 0 ≡ w / 256 % 256
  high_of l =
      get_or-set_other (set bs i (w / 256 % 256)) (i + 1) i (w % 256) 0 (λ e. omega arith) ∙ get_or-set_same bs i (w / 256 % 256) 0 l

  low_of : i + 1 < length bs → get_or (set_word bs i w) (i + 1) 0 ≡ w % 256
  low_of l = get_or-set_same (set bs i (w / 256 % 256)) (i + 1) (w % 256) 0 (omega (arith, length-set bs i (w / 256 % 256)))

  past_word : (k : ℕ) → (k ≡ i → ⊥) → (k ≡ i + 1 → ⊥) → get_or (set_word bs i w) k 0 ≡ get_or bs k 0
  past_word k a b = get_or-set_other (set bs i (w / 256 % 256)) (i + 1) k (w % 256) 0 b ∙ get_or-set_other bs i k (w / 256 % 256) 0 a

module _ (bs₀ : List ℕ) (from n : ℕ) (f w : ℕ → ℕ) where
  pub none_filled : Filled bs₀ from n f w 0 bs₀
  none_filled = record { long = refl; highs = λ y l. absurd (omega arith); lows = λ y l. absurd (omega arith); others = λ i h. refl }

  -- numbers below n that differ
  module _ (below : (y : ℕ) → y < n → f y < n) (tells : (y z : ℕ) → y < n → z < n → f y ≡ f z → y ≡ z)
      (room : from + 2 * n ≤ length bs₀) where
    more_filled : (x : ℕ) (bs : List ℕ) → x < n → Filled bs₀ from n f w x bs
        → Filled bs₀ from n f w (x + 1) (set_word bs (from + 2 * f x) (w x))
    more_filled x bs l h = record { long = length_word bs at (w x) ∙ h.long; highs = highs; lows = lows; others = others }
      where
        at : ℕ
        at = from + 2 * f x

        within : at + 1 < length bs
        within = omega (arith, below x l, h.long, room)

        differ : (y : ℕ) → y < x → f y ≡ f x → ⊥
        differ y k e = let z = tells y x (omega arith) l e in omega arith

        by : {A : Type 0} (y : ℕ) → y < x + 1 → (y ≡ x → A) → (y < x → A) → A
        by {A} y k one more = go (eqb y x) refl
          where
            go : (t : Bool) → eqb y x ≡ t → A
            go true e = one (eqb-true y x e)
            go false e = more (let d = eqb-false y x e in omega (arith, d))

        highs : (y : ℕ) → y < x + 1 → get_or (set_word bs at (w x)) (from + 2 * f y) 0 ≡ w y / 256 % 256
        highs y k =
            by y k
            (λ e. subst (λ (z : ℕ). get_or (set_word bs at (w x)) (from + 2 * f z) 0 ≡ w z / 256 % 256) (sym e)
            (high_of bs at (w x) (omega (arith, within))))
            (λ m. let d = differ y m in
            past_word bs at (w x) (from + 2 * f y) (λ e. d (omega arith)) (λ e. omega arith) ∙ h.highs y m)

        lows : (y : ℕ) → y < x + 1 → get_or (set_word bs at (w x)) (from + 2 * f y + 1) 0 ≡ w y % 256
        lows y k =
            by y k
            (λ e. subst (λ (z : ℕ). get_or (set_word bs at (w x)) (from + 2 * f z + 1) 0 ≡ w z % 256) (sym e) (low_of bs at (w x) within))
            (λ m. let d = differ y m in
            past_word bs at (w x) (from + 2 * f y + 1) (λ e. omega arith) (λ e. d (omega arith)) ∙ h.lows y m)

        others : (i : ℕ) → (i < from) ⊎ (from + 2 * n ≤ i) → get_or (set_word bs at (w x)) i 0 ≡ get_or bs₀ i 0
        others i (inl a) = past_word bs at (w x) i (λ e. omega arith) (λ e. omega arith) ∙ h.others i (inl a)
        others i (inr a) =
            let b = below x l in
            past_word bs at (w x) i (λ e. omega arith) (λ e. omega arith) ∙ h.others i (inr a)

    -- all words: they are the bytes cs, if cs has each where its number says
    module _ (onto : (m : ℕ) → m < n → (y : ℕ) × (y < n) × (f y ≡ m)) (cs : List ℕ) (size : length cs ≡ 2 * n)
        (high : (y : ℕ) → y < n → get_or cs (2 * f y) 0 ≡ w y / 256 % 256)
        (low : (y : ℕ) → y < n → get_or cs (2 * f y + 1) 0 ≡ w y % 256) where
      abbrev whole : List ℕ
      whole = take from bs₀ ++ (cs ++ drop (from + 2 * n) bs₀)

      front : length (take from bs₀) ≡ from
      front = length-take-le from bs₀ (omega (arith, room))

      long : length whole ≡ length bs₀
      long =
          omega (
            arith,
            length-append (take from bs₀) (cs ++ drop (from + 2 * n) bs₀),
            length-append cs (drop (from + 2 * n) bs₀),
            length-drop (from + 2 * n) bs₀,
            front,
            size,
            room,
          )

      -- what the whole has before, in and after the words
      before : (i : ℕ) → i < from → get_or whole i 0 ≡ get_or bs₀ i 0
      before i l = get_d_front (take from bs₀) (cs ++ drop (from + 2 * n) bs₀) i (omega (arith, front)) ∙ get_or-take from bs₀ i 0 l

      inside : (i : ℕ) → i < 2 * n → get_or whole (from + i) 0 ≡ get_or cs i 0
      inside i l =
          past_front (take from bs₀) (cs ++ drop (from + 2 * n) bs₀) from i front
          ∙ get_d_front cs (drop (from + 2 * n) bs₀) i (omega (arith, size))

      after : (i : ℕ) → get_or whole (from + (2 * n + i)) 0 ≡ get_or bs₀ (from + 2 * n + i) 0
      after i =
          past_front (take from bs₀) (cs ++ drop (from + 2 * n) bs₀) from (2 * n + i) front
          ∙ past_front cs (drop (from + 2 * n) bs₀) (2 * n) i size ∙ get_or-drop (from + 2 * n) bs₀ i 0

      -- a byte is before the words, the high or the low byte of one, or after them
      data Where (i : ℕ) : Type 0 where
        early : i < from → Where i
        at_high : (m : ℕ) → m < n → i ≡ from + 2 * m → Where i
        at_low : (m : ℕ) → m < n → i ≡ from + 2 * m + 1 → Where i
        late : from + 2 * n ≤ i → Where i

      where_is : (i : ℕ) (a b c : Bool) → ltb i from ≡ a → ltb i (from + 2 * n) ≡ b → eqb ((i - from) % 2) 0 ≡ c → Where i
      where_is i true b c e f g = early (ltb-true i from e)
      where_is i false false c e f g = late (ltb-false i (from + 2 * n) f)
      where_is i false true true e f g =
          let z = eqb-true ((i - from) % 2) 0 g in
          let k = ltb-false i from e in
          let l = ltb-true i (from + 2 * n) f in
          at_high ((i - from) / 2) (omega arith) (omega arith)
      where_is i false true false e f g =
          let z = eqb-false ((i - from) % 2) 0 g in
          let k = ltb-false i from e in
          let l = ltb-true i (from + 2 * n) f in
          at_low ((i - from) / 2) (omega arith) (omega (arith, z))

      module _ (bs : List ℕ) (h : Filled bs₀ from n f w n bs) where
        at : (i : ℕ) → Where i → get_or bs i 0 ≡ get_or whole i 0
        at i (early a) = h.others i (inl a) ∙ sym (before i a)
        at i (at_high m l e) =
            let y = onto m l in
            let q : get_or bs (from + 2 * f y.0) 0 ≡ get_or whole (from + 2 * f y.0) 0 =
            h.highs y.0 y.1 ∙ sym (high y.0 y.1) ∙ sym (inside (2 * f y.0) (let b = below y.0 y.1 in omega arith)) in
            subst (λ (k : ℕ). get_or bs k 0 ≡ get_or whole k 0) (ap (λ (k : ℕ). from + 2 * k) y.2 ∙ sym e) q
        at i (at_low m l e) =
            let y = onto m l in
            let p : from + 2 * f y.0 + 1 ≡ from + (2 * f y.0 + 1) = omega arith in
            let q : get_or bs (from + 2 * f y.0 + 1) 0 ≡ get_or whole (from + 2 * f y.0 + 1) 0 =
            h.lows y.0 y.1 ∙ sym (low y.0 y.1)
            ∙ sym (ap (λ (k : ℕ). get_or whole k 0) p ∙ inside (2 * f y.0 + 1) (let b = below y.0 y.1 in omega arith)) in
            subst (λ (k : ℕ). get_or bs k 0 ≡ get_or whole k 0) (ap (λ (k : ℕ). from + 2 * k + 1) y.2 ∙ sym e) q
        at i (late a) =
            let e : from + (2 * n + (i - (from + 2 * n))) ≡ i = omega arith in
            let g : from + 2 * n + (i - (from + 2 * n)) ≡ i = omega arith in
            h.others i (inr a) ∙ ap (λ (k : ℕ). get_or bs₀ k 0) (sym g) ∙ sym (after (i - (from + 2 * n)))
            ∙ ap (λ (k : ℕ). get_or whole k 0) e

        pub all_filled : bs ≡ take from bs₀ ++ (cs ++ drop (from + 2 * n) bs₀)
        all_filled =
            ext_get_or 0 bs whole (h.long ∙ sym long)
            (λ i l. at i (where_is i (ltb i from) (ltb i (from + 2 * n)) (eqb ((i - from) % 2) 0) refl refl refl))

-- positions, by a numbering: there is room for the next word p, and it is written
module _ (bs₀ : List ℕ) (from : ℕ) (zs : List ℤ) (ns : List ℕ) (h : Puttable bs₀ from zs ns) (x : ℕ) (l : x < length zs)
    (p : ℕ) (e : p ≡ place_of ns x) where
  pub word_room : from + 2 * p + 1 < length bs₀
  word_room = omega (arith, h.room, h.places.below x l, e)

  pub next_put : (bs bs' : List ℕ) (w : ℕ) → w ≡ word_of zs x → bs' ≡ set_word bs (from + 2 * p) w
      → Filled bs₀ from (length zs) (place_of ns) (word_of zs) x bs
      → Filled bs₀ from (length zs) (place_of ns) (word_of zs) (x + 1) bs'
  next_put bs bs' w d g f =
      subst (Filled bs₀ from (length zs) (place_of ns) (word_of zs) (x + 1))
      (ap (λ (v : ℕ). set_word bs (from + 2 * place_of ns x) v) (sym d) ∙ ap (λ (q : ℕ). set_word bs (from + 2 * q) w) (sym e) ∙ sym g)
      (more_filled bs₀ from (length zs) (place_of ns) (word_of zs) h.places.below h.places.tells h.room x bs l f)

module _ (bs₀ : List ℕ) (from : ℕ) (zs : List ℤ) (ns : List ℕ) where
  pub all_put : (x : ℕ) (bs : List ℕ) → x ≡ length zs
      → Filled bs₀ from (length zs) (place_of ns) (word_of zs) x bs → Put bs₀ from zs ns bs
  all_put x bs e h = subst (λ (y : ℕ). Filled bs₀ from (length zs) (place_of ns) (word_of zs) y bs) e h
