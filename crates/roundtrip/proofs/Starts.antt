-- Claim 4: lists with the same triangles and the same starts are packed alike.
-- Assumes nothing.
use Prim.Native.Nat.{ℕ, ◌+◌, ◌*◌, ◌≤◌, ◌<◌}
use native.Mathlib.Omega.{arith}
use mathlib.Core.Bool.{Bool, true, false}
use mathlib.Core.List.{List, [], ◌∷◌}
use mathlib.Core.Path.{◌≡◌, refl, sym, ap, ap₂, ◌∙◌, subst}
use mathlib.Core.Logic.{◌↔◌}
use lib.ListN.{length, drop}
use lib.Dec.{leb}
use Rattle.rules.specs.declared.Triangle.{Triangle}
use Rattle.rules.specs.declared.Operation.{Operation}
use Rattle.rules.specs.Checked.{Checked}
use Rattle.rules.specs.Checked.{Accepted}
use Rattle.rules.specs.Limits.{max_places, max_loops}
use Rattle.rules.specs.Triangle.{triangles_of, at_p, In, here, there}
use Rattle.rules.specs.Answer.{refusal, packed}
use Rattle.rules.specs.Bits.{bytes_of}
use Rattle.rules.specs.Code.{operations_bits}
use Rattle.rules.specs.Fields.{pack_bytes}
use Rattle.rules.specs.Choice.{Packing}
use Rattle.rules.specs.Pack as P
use Rattle.rules.specs.Buffer.{over, zeroed, cleared}
use Rattle.rules.specs.Pack.{Chosen, stopped, chosen, choose_all, most, nothing_built, enough, chosen_for, order_for, new_numbers}
use Rattle.rules.specs.Pack.{PackBuffers}
use Rattle.rules.specs.Pack.{PackResult, PackContents, pack_refused, pack_stored, contents_of, pack_chosen, pack_long_enough, pack_checked}
use Rattle.rules.specs.Pack.{pack}
use Rattle.mesh_theory.specs.Fans.Corner.{Once}
use Rattle.choice_theory.proofs.Turning.Links.{free_rot}
use Rattle.choice_theory.proofs.Turning.Ways.{others, others_length, others_once}
use Rattle.choice_theory.proofs.Turning.Taking.{out}
use Rattle.choice_theory.proofs.Runs.Accepted.{accepted_packable}
use Rattle.choice_theory.proofs.Runs.RoundTrip.{stated_by}
use Rattle.roundtrip.specs.Run.{starts_by, starts_of}
use Rattle.roundtrip.specs.Claims.{Rotated, nth, input_number, SamePacking, SameStartsSamePacking}
use Rattle.roundtrip.proofs.Alike.{Same, SameChosen, alike}
use Rattle.roundtrip.proofs.Results.{not_packed, stored_done, stored_refused, packed_by}
use Rattle.roundtrip.proofs.Each.{beyond_order}
use Rattle.roundtrip.proofs.SameOrder.{orders_alike}

-- the same triangles are as many
no_more : (ts us : List Triangle) → Once ts → Once us → ((x y z : ℕ) → In x y z ts → In x y z us) → length ts ≤ length us
no_more [] us o o' to = omega arith
no_more (t ∷ ts) us o o' to =
    let i = to t.p t.q t.r (here (at_p refl refl refl)) in
    omega (
      arith,
      others_length i,
      no_more ts (others i) o.2 (others_once us i o')
          (λ x y z j. go x y z j i (out i (to x y z (there j)))),
    )
  where
    go : (x y z : ℕ) → In x y z ts → (i : In t.p t.q t.r us) → In x y z (record { p = t.p; q = t.q; r = t.r } ∷ others i)
        → In x y z (others i)
    go x y z j i (here r) = absurd (free_rot ts o.0 r z j)
    go x y z j i (there k) = k

pub same_all : (ts us : List Triangle) → Once ts → Once us → ((x y z : ℕ) → In x y z ts ↔ In x y z us) → Same ts us
same_all ts us o o' h = record {
  once = o;
  once' = o';
  count = omega (arith, no_more ts us o o' (λ x y z. (h x y z).0), no_more us ts o' o (λ x y z. (h x y z).1));
  to = λ x y z. (h x y z).0;
  from = λ x y z. (h x y z).1;
}

-- both are accepted, and nothing but their orders may differ
record BothPacked (p q : PackResult) : Type 0 where
  bytes : ℕ
  one : p.answer ≡ packed bytes
  two : q.answer ≡ packed bytes
  numbering : p.buffers.numbering ≡ q.buffers.numbering
  places : p.buffers.places ≡ q.buffers.places
  pack : p.buffers.pack ≡ q.buffers.pack

data Similar (p q : PackResult) : Type 0 where
  no_difference : p ≡ q → Similar p q
  both_packed : BothPacked p q → Similar p q

module _ (v : ℕ) (ts us : List Triangle) (r : PackBuffers) (same : Same ts us) where
  counts : (s u : Packing) → s.most_places ≡ u.most_places → s.most_loops ≡ u.most_loops
      → stated_by v ts s ≡ stated_by v us u
  counts s u p l = λ i. record { vertices = v; triangles = same.count i; places = p i; loops = l i }

  -- refused alike
  refused_alike : (n : ℕ) → pack_refused n v ts r ≡ pack_refused n v us r
  refused_alike n = λ i. record {
    answer = refusal n;
    buffers = record {
      numbering = zeroed v r.numbering;
      places = cleared r.places;
      pack = zeroed (length r.pack) r.pack;
      order = zeroed (same.count i) r.order;
    };
  }

  stored_alike : (w w' : PackContents) → w.numbering ≡ w'.numbering → w.pack ≡ w'.pack
      → Similar (pack_stored v ts w r) (pack_stored v us w' r)
  stored_alike w w' a b = go (leb (length w.pack) (length r.pack)) refl
    where
      other : (t : Bool) → leb (length w.pack) (length r.pack) ≡ t → leb (length w'.pack) (length r.pack) ≡ t
      other t e = ap (λ (bs : List ℕ). leb (length bs) (length r.pack)) (sym b) ∙ e

      go : (t : Bool) → leb (length w.pack) (length r.pack) ≡ t → Similar (pack_stored v ts w r) (pack_stored v us w' r)
      go true e =
          let p = stored_done v ts w r e in
          let q = stored_done v us w' r (other true e) in
          both_packed (record {
            bytes = length w.pack;
            one = ap (λ (x : PackResult). x.answer) p;
            two = ap (λ (x : PackResult). x.answer) q ∙ ap (λ (bs : List ℕ). packed (length bs)) (sym b);
            numbering = ap (λ (x : PackResult). x.buffers.numbering) p
                ∙ (ap (λ (ns : List ℕ). over ns r.numbering) a ∙ sym (ap (λ (x : PackResult). x.buffers.numbering) q));
            places = ap (λ (x : PackResult). x.buffers.places) p ∙ sym (ap (λ (x : PackResult). x.buffers.places) q);
            pack = ap (λ (x : PackResult). x.buffers.pack) p
                ∙ (ap (λ (bs : List ℕ). over bs r.pack) b ∙ sym (ap (λ (x : PackResult). x.buffers.pack) q));
          })
      go false e = no_difference
          (stored_refused v ts w r e ∙ (refused_alike 11 ∙ sym (stored_refused v us w' r (other false e))))

  chosen_alike : (qs qs' : List ℕ) (c d : Chosen) → SameChosen c d → Similar (pack_chosen v ts r qs c) (pack_chosen v us r qs' d)
  unfolding pack_chosen
  chosen_alike qs qs' (stopped n) (stopped m) h = no_difference (ap (λ (k : ℕ). pack_refused k v ts r) h ∙ refused_alike m)
  chosen_alike qs qs' (stopped n) (chosen os s) h = absurd h
  chosen_alike qs qs' (chosen os s) (stopped m) h = absurd h
  chosen_alike qs qs' (chosen os s) (chosen os' s') h =
      stored_alike (contents_of v ts qs os s) (contents_of v us qs' os' s') (ap (new_numbers v) h.1)
      (ap₂ pack_bytes (counts s s' h.2 h.3) (ap (λ (l : List Operation). bytes_of (operations_bits l)) h.0))

  all_alike : starts_of ts ≡ starts_of us
      → Similar (pack_chosen v ts r (order_for most ts) (chosen_for most ts)) (pack_chosen v us r (order_for most us) (chosen_for most us))
  all_alike e =
      let n : enough ts ≡ enough us = ap (λ (k : ℕ). 4 * k + 1) same.count in
      chosen_alike (order_for most ts) (order_for most us) (chosen_for most ts) (chosen_for most us)
      (subst (λ (k : ℕ). SameChosen (chosen_for most ts) (choose_all k (nothing_built most us))) n
      (alike (enough ts) 0 0 max_places max_loops [] [] ts us ts us same same
      (e ∙ sym (ap (λ (k : ℕ). starts_by k (nothing_built most us)) n))))

  checked_alike : starts_of ts ≡ starts_of us → Similar (pack_checked most v ts r Accepted) (pack_checked most v us r Accepted)
  unfolding pack_checked
  checked_alike e =
      subst (λ (k : ℕ). Similar (by (pack_long_enough v r) (leb (length ts) (length r.order)) p)
      (by (pack_long_enough v r) (leb k (length r.order)) q)) same.count
      (go (pack_long_enough v r) (leb (length ts) (length r.order)))
    where
      p : PackResult
      p = pack_chosen v ts r (order_for most ts) (chosen_for most ts)

      q : PackResult
      q = pack_chosen v us r (order_for most us) (chosen_for most us)

      by : Bool → Bool → PackResult → PackResult
      by t u x = elim t [ true ↦ elim u [ true ↦ x | false ↦ P.turned_down 22 r ] | false ↦ P.turned_down 8 r ]

      go : (t u : Bool) → Similar (by t u p) (by t u q)
      go true true = all_alike e
      go true false = no_difference refl
      go false u = no_difference refl

pub same_starts_same_packing : SameStartsSamePacking
same_starts_same_packing v xs ys r a b h e =
    go (subst (λ (c : Checked). Similar (pack_checked most v ts r c) (pack v ys r)) (sym a)
    (subst (λ (c : Checked). Similar (pack_checked most v ts r Accepted) (pack_checked most v us r c)) (sym b)
    (checked_alike v ts us r same e)))
  where
    ts : List Triangle
    ts = triangles_of xs

    us : List Triangle
    us = triangles_of ys

    same : Same ts us
    same = same_all ts us (accepted_packable v xs a).once (accepted_packable v ys b).once h

    order : (pack v xs r).answer ≡ (pack v ys r).answer → (pack v xs r).buffers.numbering ≡ (pack v ys r).buffers.numbering
        → (pack v xs r).buffers.pack ≡ (pack v ys r).buffers.pack → (n : ℕ) → (pack v xs r).answer ≡ packed n → (i : ℕ) → i < length ts
        → Rotated (nth ts (input_number (pack v xs r) i)) (nth us (input_number (pack v ys r) i))
    order k ns bs n f =
        orders_alike v xs ys r n (packed_by most v xs r n f) (packed_by most v ys r n (sym k ∙ f)) ns bs same.count

    go : Similar (pack v xs r) (pack v ys r) → SamePacking ts us (pack v xs r) (pack v ys r)
    go (no_difference k) =
        let answers = ap (λ (p : PackResult). p.answer) k in
        let numbers = ap (λ (p : PackResult). p.buffers.numbering) k in
        let bytes = ap (λ (p : PackResult). p.buffers.pack) k in
        record {
          answer = answers;
          numbering = numbers;
          places = ap (λ (p : PackResult). p.buffers.places) k;
          pack = bytes;
          order = order answers numbers bytes;
          beyond = ap (λ (p : PackResult). drop (length ts) p.buffers.order) k;
          refused = λ n f. ap (λ (p : PackResult). p.buffers.order) k;
        }
    go (both_packed k) =
        let p = packed_by most v xs r k.bytes k.one in
        let q = packed_by most v ys r k.bytes k.two in
        record {
          answer = k.one ∙ sym k.two;
          numbering = k.numbering;
          places = k.places;
          pack = k.pack;
          order = order (k.one ∙ sym k.two) k.numbering k.pack;
          beyond =
              beyond_order v xs r k.bytes p
              ∙ sym (ap (λ (m : ℕ). drop m (pack v ys r).buffers.order) same.count ∙ (beyond_order v ys r k.bytes q
              ∙ sym (ap (λ (m : ℕ). drop m r.order) same.count)));
          refused = λ n f. absurd (not_packed k.bytes n (sym f ∙ k.one));
        }
