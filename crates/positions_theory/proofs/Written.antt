-- Positions that were put where their numbers say are the bytes of the positions in the order of the numbers.
-- Assumes nothing.
use Prim.Native.Nat.{ℕ, zero, suc, ◌+◌, ◌*◌, ◌/◌, ◌%◌, ◌≤◌, ◌<◌}
use native.Mathlib.Omega.{arith}
use mathlib.Core.List.{List, [], ◌∷◌, ◌++◌, append_assoc}
use mathlib.Core.Path.{◌≡◌, refl, sym, ap, ap₂, ◌∙◌, subst}
use lib.IntN.{ℤ}
use lib.ListN.{length, take, drop, get_or, set, length-set}
use lib.Seq.{length-take-le, take-append-add, drop-set-lt, sets-eq}
use Rattle.rules.specs.Fields.{word}
use Rattle.rules.specs.Grid.{unsigned_of, position_bytes}
use Rattle.rules.specs.Later.{positions_tag}
use Rattle.wire_theory.proofs.Positions.{length_positions}
use Rattle.positions_theory.specs.Filling.{set_word, place_of, word_of, Puttable, Put, Renumbered, FieldRoom, FieldPut}
use Rattle.positions_theory.proofs.Filling.{all_filled}

-- the two bytes of position i
high_byte : (zs : List ℤ) (i : ℕ) → i < length zs → get_or (position_bytes zs) (2 * i) 0 ≡ word_of zs i / 256 % 256
unfolding position_bytes
high_byte [] i l = absurd (omega arith)
high_byte (z ∷ zs) zero l = refl
high_byte (z ∷ zs) (suc i) l =
    let e : 2 * suc i ≡ suc (suc (2 * i)) = omega arith in
    ap (λ (k : ℕ). get_or (position_bytes (z ∷ zs)) k 0) e ∙ high_byte zs i (omega arith)

low_byte : (zs : List ℤ) (i : ℕ) → i < length zs → get_or (position_bytes zs) (2 * i + 1) 0 ≡ word_of zs i % 256
unfolding position_bytes
low_byte [] i l = absurd (omega arith)
low_byte (z ∷ zs) zero l = refl
low_byte (z ∷ zs) (suc i) l =
    let e : 2 * suc i + 1 ≡ suc (suc (2 * i + 1)) = omega arith in
    ap (λ (k : ℕ). get_or (position_bytes (z ∷ zs)) k 0) e ∙ low_byte zs i (omega arith)

-- words
module _ (bs : List ℕ) (from : ℕ) (zs : List ℤ) (ns : List ℕ) (h : Puttable bs from zs ns) (ps : List ℤ) (r : Renumbered zs ns ps) where
  high : (y : ℕ) → y < length zs → get_or (position_bytes ps) (2 * place_of ns y) 0 ≡ word_of zs y / 256 % 256
  high y l =
      high_byte ps (place_of ns y) (omega (arith, h.places.below y l, r.same)) ∙ ap (λ (z : ℤ). unsigned_of z / 256 % 256) (r.moved y l)

  low : (y : ℕ) → y < length zs → get_or (position_bytes ps) (2 * place_of ns y + 1) 0 ≡ word_of zs y % 256
  low y l = low_byte ps (place_of ns y) (omega (arith, h.places.below y l, r.same)) ∙ ap (λ (z : ℤ). unsigned_of z % 256) (r.moved y l)

  put_written : (bs' : List ℕ) → Put bs from zs ns bs' → bs' ≡ take from bs ++ (position_bytes ps ++ drop (from + 2 * length zs) bs)
  put_written bs' p =
      all_filled bs from (length zs) (place_of ns) (word_of zs) h.places.below h.places.tells h.room h.places.onto
      (position_bytes ps)
      (length_positions ps ∙ ap (λ (k : ℕ). 2 * k) r.same) high low bs' p

-- the field: its tag and its length, then the words
module _ (bs : List ℕ) (n : ℕ) (zs : List ℤ) (ns : List ℕ) (h : FieldRoom bs n zs ns) (w : ℕ) (e : w ≡ 2 * length zs) where
  abbrev begun : List ℕ
  begun = set_word (set bs n positions_tag) (n + 1) w

  abbrev beginning : List ℕ
  beginning = positions_tag ∷ word w

  begun_long : length begun ≡ length bs
  begun_long =
      length-set (set (set bs n positions_tag) (n + 1) (w / 256 % 256)) (n + 1 + 1) (w % 256)
      ∙ length-set (set bs n positions_tag) (n + 1) (w / 256 % 256) ∙ length-set bs n positions_tag

  words_room : Puttable begun (n + 3) zs ns
  words_room = record {
    room = omega (arith, h.words.room, begun_long);
    enough = h.words.enough;
    places = h.words.places;
  }

  begun_is : begun ≡ take n bs ++ (beginning ++ drop (n + 3) bs)
  begun_is =
      let a : n + 1 ≡ suc n = omega arith in
      let b : n + 1 + 1 ≡ suc (suc n) = omega arith in
      ap₂ (λ (i j : ℕ). set (set (set bs n positions_tag) i (w / 256 % 256)) j (w % 256)) a b
      ∙ sets-eq beginning bs n (omega (arith, h.words.room)) ∙ append_assoc (take n bs) beginning (drop (n + 3) bs)

  front : take (n + 3) begun ≡ take n bs ++ beginning
  front =
      let l : n + 3 ≡ length (take n bs) + 3 = omega (arith, length-take-le n bs (omega (arith, h.words.room))) in
      ap (take (n + 3)) begun_is ∙ ap (λ (k : ℕ). take k (take n bs ++ (beginning ++ drop (n + 3) bs))) l
      ∙ take-append-add (take n bs) (beginning ++ drop (n + 3) bs) 3

  past : (k : ℕ) → n + 3 ≤ k → drop k begun ≡ drop k bs
  past k l =
      drop-set-lt k (set (set bs n positions_tag) (n + 1) (w / 256 % 256)) (n + 1 + 1) (w % 256) (omega arith)
      ∙ drop-set-lt k (set bs n positions_tag) (n + 1) (w / 256 % 256) (omega arith) ∙ drop-set-lt k bs n positions_tag (omega arith)

  field_put : (bs' : List ℕ) → Put begun (n + 3) zs ns bs' → FieldPut bs n zs ns bs'
  field_put bs' p ps r =
      let q : w ≡ length (position_bytes ps) = omega (arith, e, r.same, length_positions ps) in
      put_written begun (n + 3) zs ns words_room ps r bs' p
      ∙ ap₂ (λ (us vs : List ℕ). us ++ (position_bytes ps ++ vs)) front (past (n + 3 + 2 * length zs) (omega arith))
      ∙ append_assoc (take n bs) beginning (position_bytes ps ++ drop (n + 3 + 2 * length zs) bs)
      ∙ ap (λ (k : ℕ). take n bs ++ ((positions_tag ∷ word k) ++ (position_bytes ps ++ drop (n + 3 + 2 * length zs) bs))) q

  -- as the code has it
  module _ (b : List ℕ) (is : b ≡ begun) where
    pub may_put : Puttable b (n + 3) zs ns
    may_put = subst (λ (us : List ℕ). Puttable us (n + 3) zs ns) (sym is) words_room

    module _ (bs' : List ℕ) (p : Put b (n + 3) zs ns bs') where
      pub field_long : length bs' ≡ length bs
      field_long = p.long ∙ ap length is ∙ begun_long

      pub field_is : FieldPut bs n zs ns bs'
      field_is = field_put bs' (subst (λ (us : List ℕ). Put us (n + 3) zs ns bs') is p)
