-- Packing keeps the gaps: what holds at all places but three, taken over to the places after the operation.
-- Assumes nothing.
use Prim.Native.Nat.{ℕ, ◌+◌, ◌≤◌}
use native.Mathlib.Omega.{arith}
use mathlib.Core.Bool.{Bool, true, false, false≢true}
use mathlib.Core.List.{List, [], ◌∷◌, ◌++◌}
use mathlib.Core.Path.{◌≡◌, refl, sym, ap, ◌∙◌, subst}
use mathlib.Core.Logic.{◌⊎◌, inl, inr}
use Rattle.rules.specs.declared.Operation.{Operation}
use Rattle.rules.specs.declared.Operation.TheVariants.{New, Forward, Backward, Border, Split, Close, Union, Start}
use Rattle.rules.specs.Count.{hit}
use Rattle.rules.specs.Ring.{Node, opened, Ring, vertex, start_or}
use Rattle.rules.specs.Table.{in_order}
use Rattle.choice_theory.specs.Full.{fewer, fewer_first}
use Rattle.choice_theory.proofs.Places.Corners.{end_or, Along, Around, Everywhere}
use Rattle.choice_theory.proofs.Steps.Surgery.{Surgery, on_new, on_forward, on_backward, on_close, on_split, on_union}
use Rattle.choice_theory.proofs.Steps.Tally.{tally, ring_tally, total}
use Rattle.choice_theory.proofs.Places.Rings.{ring_join, ring_parts, ring_swap, last_append}
use Rattle.choice_theory.proofs.Runs.Fate.{rings_append, rings_split}
use Rattle.choice_theory.proofs.Steps.Tallies.{tally_append, tally_swap, total_append}
use Rattle.choice_theory.proofs.Places.Sites.{last_join}
use Rattle.counting.proofs.Counts.{hit_yes}
use Rattle.book.proofs.Sums.{start_append}
use Rattle.mesh_theory.proofs.Fans.Only.{hit_eq}

-- the vertices before and after the place that an operation names
abbrev pub before_c : {e f : Node} {ps : List Node} {ws ls : List Ring} {c : ℕ} {o : Operation} → Surgery e f ps ws ls c o → ℕ
before_c (on_new q) = 0
before_c {f = f} (on_forward p q qs sh k op l) = vertex f
before_c (on_backward q qs p sh k op l) = end_or (vertex q) qs
before_c {f = f} (on_close p sh k op op' l) = vertex f
before_c {f = f} (on_split us p vs sh n lu lv k l) = end_or (vertex f) us
before_c (on_union before us p vs behind sh n i k l) = end_or (end_or (vertex p) vs) us

abbrev pub after_c : {e f : Node} {ps : List Node} {ws ls : List Ring} {c : ℕ} {o : Operation} → Surgery e f ps ws ls c o → ℕ
after_c (on_new q) = 0
after_c (on_forward p q qs sh k op l) = vertex q
after_c {e = e} (on_backward q qs p sh k op l) = vertex e
after_c {e = e} (on_close p sh k op op' l) = vertex e
after_c {e = e} (on_split us p vs sh n lu lv k l) = start_or (vertex e) vs
after_c (on_union before us p vs behind sh n i k l) = start_or (start_or (vertex p) us) vs

-- edges into the places of a segment
abbrev entering : ℕ → ℕ → ℕ → List Node → ℕ
entering u v x [] = 0
entering u v x (p ∷ ps) = hit u v x (vertex p) + entering u v (vertex p) ps

entering_edges : (u v x : ℕ) (us : List Node) (y : ℕ)
    → entering u v x us + hit u v (end_or x us) y ≡ hit u v x (start_or y us) + tally u v us y
entering_edges u v x [] y = omega arith
entering_edges u v x (p ∷ us) y = let h = entering_edges u v (vertex p) us y in omega arith

-- Q holds, or the place is e, or f, or the place of c between xP and yP
abbrev pub Kept : (ℕ → ℕ → ℕ → Type 0) → ℕ → ℕ → ℕ → ℕ → ℕ → ℕ → ℕ → ℕ → Type 0
Kept Q a b c xP yP x v y =
    Q x v y ⊎ (((v ≡ a) × (y ≡ b)) ⊎ (((v ≡ b) × (x ≡ a)) ⊎ (((v ≡ c) × (x ≡ xP)) ⊎ ((v ≡ c) × (y ≡ yP)))))

module _ (Q : ℕ → ℕ → ℕ → Type 0) (a b c xP yP : ℕ) where
  -- a segment that none of the three stands in
  record None (x : ℕ) (us : List Node) (y : ℕ) : Type 0 where
    in_ab : entering a b x us ≡ 0
    in_xc : entering xP c x us ≡ 0
    out_ab : tally a b us y ≡ 0
    out_cy : tally c yP us y ≡ 0

  elsewhere : (x : ℕ) (us : List Node) (y : ℕ) → None x us y → Along (Kept Q a b c xP yP) x us y → Along Q x us y
  elsewhere x [] y k s = tt
  elsewhere x (p ∷ us) y k s =
      let k1 = k.in_ab in
      let k2 = k.in_xc in
      let k3 = k.out_ab in
      let k4 = k.out_cy in (
        go s.0,
        elsewhere (vertex p) us y (record { in_ab = omega arith; in_xc = omega arith; out_ab = omega arith; out_cy = omega arith }) s.1,
      )
    where
      go : Kept Q a b c xP yP x (vertex p) (start_or y us) → Q x (vertex p) (start_or y us)
      go (inl h) = h
      go (inr (inl h)) = let i = hit_eq a b (vertex p) (start_or y us) h.0 h.1 in let k3 = k.out_ab in absurd (omega arith)
      go (inr (inr (inl h))) = let i = hit_eq a b x (vertex p) h.1 h.0 in let k1 = k.in_ab in absurd (omega arith)
      go (inr (inr (inr (inl h)))) = let i = hit_eq xP c x (vertex p) h.1 h.0 in let k2 = k.in_xc in absurd (omega arith)
      go (inr (inr (inr (inr h)))) = let i = hit_eq c yP (vertex p) (start_or y us) h.0 h.1 in let k4 = k.out_cy in
          absurd (omega arith)

  elsewhere_ring : (l : List Node) → ring_tally a b l ≡ 0 → ring_tally xP c l ≡ 0 → ring_tally c yP l ≡ 0 → Around (Kept Q a b c xP yP) l
      → Around Q l
  elsewhere_ring [] h g k r = tt
  elsewhere_ring (p ∷ ps) h g k r =
      let i = entering_edges a b (end_or (vertex p) ps) (p ∷ ps) (vertex p) in
      let j = entering_edges xP c (end_or (vertex p) ps) (p ∷ ps) (vertex p) in
      elsewhere (end_or (vertex p) ps) (p ∷ ps) (vertex p) (record { in_ab = omega arith; in_xc = omega arith; out_ab = h; out_cy = k }) r

  elsewhere_rings : (ls : List Ring) → total a b ls ≡ 0 → total xP c ls ≡ 0 → total c yP ls ≡ 0 → Everywhere (Kept Q a b c xP yP) ls
      → Everywhere Q ls
  elsewhere_rings [] h g k r = tt
  elsewhere_rings (l ∷ ls) h g k r = (
    elsewhere_ring l (omega arith) (omega arith) (omega arith) r.0,
    elsewhere_rings ls (omega arith) (omega arith) (omega arith)
        r.1,
  )

rings_shorter_of : (Q : ℕ → ℕ → ℕ → Type 0) (a b : List Node) (ws : List Ring) → Around Q a → Around Q b → Everywhere Q ws
    → Everywhere Q (fewer_first a b ws)
unfolding in_order
rings_shorter_of Q a b ws h k m = go (fewer a b)
  where
    go : (t : Bool) → Everywhere Q (in_order t a b ws)
    go true = (h, (k, m))
    go false = (k, (h, m))

unfoldable pub is_new : Operation → Bool
is_new New = true
is_new Forward = false
is_new Backward = false
is_new Border = false
is_new Close = false
is_new Start = false
is_new (Split i) = false
is_new (Union w j) = false

pub op_not_new : (o : Operation) → is_new o ≡ false → o ≡ New → ⊥
unfolding is_new
op_not_new o h e = false≢true (sym h ∙ ap is_new e)

isnt_forward : is_new Forward ≡ false
unfolding is_new
isnt_forward = refl

isnt_backward : is_new Backward ≡ false
unfolding is_new
isnt_backward = refl

isnt_close : is_new Close ≡ false
unfolding is_new
isnt_close = refl

isnt_split : (i : ℕ) → is_new (Split i) ≡ false
unfolding is_new
isnt_split i = refl

isnt_union : (w j : ℕ) → is_new (Union w j) ≡ false
unfolding is_new
isnt_union w j = refl

-- what is given of the rings before the operation, of the heirs of e and f, and of those of the place of c
abbrev Given : (ℕ → ℕ → ℕ → Type 0) → Node → Node → List Node → List Ring → ℕ → ℕ → ℕ → Type 0
Given Q e f ps ws c xP yP =
    Everywhere (Kept Q (vertex e) (vertex f) c xP yP) ((e ∷ (f ∷ ps)) ∷ ws)
    × ((u v : ℕ) → total u v ((e ∷ (f ∷ ps)) ∷ ws) ≤ 1)
    × Q (end_or (vertex f) ps) (vertex e) c
    × Q c (vertex f) (start_or (vertex e) ps)
    × Q xP c (vertex f)
    × Q (vertex e) c yP

module _ (Q : ℕ → ℕ → ℕ → Type 0) (e f p : Node) (ws : List Ring) where
  fore_forward : (q : Node) (qs : List Node) → Given Q e f (p ∷ (q ∷ qs)) ws (vertex p) (vertex f) (vertex q)
      → Everywhere Q ((opened (vertex e) ∷ (p ∷ (q ∷ qs))) ∷ ws)
  fore_forward q qs g =
      let a = vertex e in
      let b = vertex f in
      let c = vertex p in
      let t1 = g.1 a b in
      let t2 = g.1 b c in
      let t3 = g.1 c (vertex q) in
      let o1 = hit_yes a b in
      let o2 = hit_yes b c in
      let o3 = hit_yes c (vertex q) in
      let i1 = entering_edges a b c (q ∷ qs) a in
      let i2 = entering_edges b c c (q ∷ qs) a in (
        (
          g.2,
          (
            g.5,
            elsewhere Q a b c b (vertex q) c (q ∷ qs) a
                (record { in_ab = omega arith; in_xc = omega arith; out_ab = omega arith; out_cy = omega arith }) g.0.0.1.1.1,
          ),
        ),
        elsewhere_rings Q a b c b (vertex q) ws (omega arith) (omega arith) (omega arith) g.0.1,
      )

  fore_backward : (q : Node) (qs : List Node) → Given Q e f ((q ∷ qs) ++ (p ∷ [])) ws (vertex p) (end_or (vertex q) qs) (vertex e)
      → Everywhere Q ((opened (vertex p) ∷ (f ∷ (q ∷ qs))) ∷ ws)
  fore_backward q qs g =
      let a = vertex e in
      let b = vertex f in
      let c = vertex p in
      let x = end_or (vertex q) qs in
      let t1 = g.1 a b in
      let t2 = g.1 x c in
      let t3 = g.1 c a in
      let o1 = hit_yes a b in
      let o2 = hit_yes x c in
      let o3 = hit_yes c a in
      let h1 = tally_append a b (q ∷ qs) (p ∷ []) a in
      let h2 = tally_append x c (q ∷ qs) (p ∷ []) a in
      let h3 = tally_append c a (q ∷ qs) (p ∷ []) a in
      let i1 = entering_edges a b b (q ∷ qs) c in
      let i2 = entering_edges x c b (q ∷ qs) c in
      let r = ring_parts (Kept Q a b c x a) e (f ∷ (q ∷ qs)) p [] g.0.0 in (
        (
          g.4,
          (
            g.3,
            elsewhere Q a b c x a b (q ∷ qs) c
                (record { in_ab = omega arith; in_xc = omega arith; out_ab = omega arith; out_cy = omega arith }) r.0.1.1,
          ),
        ),
        elsewhere_rings Q a b c x a ws (omega arith) (omega arith) (omega arith) g.0.1,
      )

  fore_close : Given Q e f (p ∷ []) ws (vertex p) (vertex f) (vertex e) → Everywhere Q ws
  fore_close g =
      let a = vertex e in
      let b = vertex f in
      let c = vertex p in
      let t1 = g.1 a b in
      let t2 = g.1 b c in
      let t3 = g.1 c a in
      let o1 = hit_yes a b in
      let o2 = hit_yes b c in
      let o3 = hit_yes c a in
      elsewhere_rings Q a b c b a ws (omega arith) (omega arith) (omega arith) g.0.1

  fore_split : (us vs : List Node) → Given Q e f (us ++ (p ∷ vs)) ws (vertex p) (end_or (vertex f) us) (start_or (vertex e) vs)
      → Everywhere Q (fewer_first (opened (vertex p) ∷ (f ∷ us)) (opened (vertex e) ∷ (p ∷ vs)) ws)
  fore_split us vs g =
      let a = vertex e in
      let b = vertex f in
      let c = vertex p in
      let x = end_or b us in
      let y = start_or a vs in
      let t1 = g.1 a b in
      let t2 = g.1 x c in
      let t3 = g.1 c y in
      let o1 = hit_yes a b in
      let o2 = hit_yes x c in
      let o3 = hit_yes c y in
      let h1 = tally_append a b (f ∷ us) (p ∷ vs) a in
      let h2 = tally_append x c (f ∷ us) (p ∷ vs) a in
      let h3 = tally_append c y (f ∷ us) (p ∷ vs) a in
      let i1 = entering_edges a b b us c in
      let i2 = entering_edges x c b us c in
      let j1 = entering_edges a b c vs a in
      let j2 = entering_edges x c c vs a in
      let r = ring_parts (Kept Q a b c x y) e (f ∷ us) p vs g.0.0 in
      rings_shorter_of Q (opened c ∷ (f ∷ us)) (opened a ∷ (p ∷ vs)) ws (
        g.4,
        (
          subst (λ (w : ℕ). Q c b w) (start_append a us (p ∷ vs)) g.3,
          elsewhere Q a b c x y b us c
              (record { in_ab = omega arith; in_xc = omega arith; out_ab = omega arith; out_cy = omega arith }) r.0.1.1,
        ),
      ) (
        subst (λ (w : ℕ). Q w a c) (last_append b us p vs) g.2,
        (
          g.5,
          elsewhere Q a b c x y c vs a
              (record { in_ab = omega arith; in_xc = omega arith; out_ab = omega arith; out_cy = omega arith }) r.1.1,
        ),
      )
      (elsewhere_rings Q a b c x y ws (omega arith) (omega arith) (omega arith) g.0.1)

fore_union : (Q : ℕ → ℕ → ℕ → Type 0) (e f p : Node) (ps : List Node) (before : List Ring) (us vs : List Node) (behind : List Ring)
    → Given Q e f ps (before ++ ((us ++ (p ∷ vs)) ∷ behind)) (vertex p) (end_or (vertex p) (vs ++ us)) (start_or (vertex p) (vs ++ us))
    → Everywhere Q ((opened (vertex p) ∷ (f ∷ (ps ++ (opened (vertex e) ∷ (p ∷ (vs ++ us)))))) ∷ (before ++ behind))
fore_union Q e f p ps before us vs behind g =
    let a = vertex e in
    let b = vertex f in
    let c = vertex p in
    let x = end_or c (vs ++ us) in
    let y = start_or c (vs ++ us) in
    let w = us ++ (p ∷ vs) in
    let t1 = g.1 a b in
    let t2 = g.1 x c in
    let t3 = g.1 c y in
    let o1 = hit_yes a b in
    let o2 = hit_yes x c in
    let o3 = hit_yes c y in
    let h1 = total_append a b before (w ∷ behind) in
    let h2 = total_append x c before (w ∷ behind) in
    let h3 = total_append c y before (w ∷ behind) in
    let s1 = tally_swap a b us (p ∷ vs) in
    let s2 = tally_swap x c us (p ∷ vs) in
    let s3 = tally_swap c y us (p ∷ vs) in
    let i1 = entering_edges a b b ps a in
    let i2 = entering_edges x c b ps a in
    let j1 = entering_edges a b c (vs ++ us) c in
    let j2 = entering_edges x c c (vs ++ us) c in
    let r = rings_split (Kept Q a b c x y) before (w ∷ behind) g.0.1 in
    let k = ring_swap (Kept Q a b c x y) us (p ∷ vs) r.1.0 in (
      ring_join Q (opened c) (f ∷ ps) (opened a) (p ∷ (vs ++ us)) (
        g.4,
        (
          g.3,
          elsewhere Q a b c x y b ps a
              (record { in_ab = omega arith; in_xc = omega arith; out_ab = omega arith; out_cy = omega arith }) g.0.0.1.1,
        ),
      ) (
        g.2,
        (
          g.5,
          elsewhere Q a b c x y c (vs ++ us) c
              (record { in_ab = omega arith; in_xc = omega arith; out_ab = omega arith; out_cy = omega arith }) k.1,
        ),
      ),
      rings_append Q before behind
          (elsewhere_rings Q a b c x y before (omega arith) (omega arith) (omega arith) r.0)
          (elsewhere_rings Q a b c x y behind (omega arith) (omega arith) (omega arith) r.1.1),
    )

-- the rings after the operation
pub fore_step : (Q : ℕ → ℕ → ℕ → Type 0) (e f : Node) (ps : List Node) (ws ls : List Ring) (c : ℕ) (o : Operation)
    (s : Surgery e f ps ws ls c o)
    → Everywhere (Kept Q (vertex e) (vertex f) c (before_c s) (after_c s)) ((e ∷ (f ∷ ps)) ∷ ws)
    → ((u v : ℕ) → total u v ((e ∷ (f ∷ ps)) ∷ ws) ≤ 1)
    → Q (end_or (vertex f) ps) (vertex e) c → Q c (vertex f) (start_or (vertex e) ps)
    → (o ≡ New → Q (vertex e) c (vertex f) × (total 0 c ((e ∷ (f ∷ ps)) ∷ ws) ≡ 0) × (total c 0 ((e ∷ (f ∷ ps)) ∷ ws) ≡ 0))
    → ((o ≡ New → ⊥) → Q (before_c s) c (vertex f) × Q (vertex e) c (after_c s)) → Everywhere Q ls
fore_step Q e f ps ws ls c New (on_new q) r le he hf hn hc =
    let a = vertex e in
    let b = vertex f in
    let n = hn refl in
    let z1 = n.1 in
    let z2 = n.2 in
    let t1 = le a b in
    let o1 = hit_yes a b in
    let i1 = entering_edges a b b ps a in
    let i2 = entering_edges 0 c b ps a in
    rw q (
      ring_join Q (opened c) (f ∷ ps) (opened a) [] (
        n.0,
        (
          hf,
          elsewhere Q a b c 0 0 b ps a
              (record { in_ab = omega arith; in_xc = omega arith; out_ab = omega arith; out_cy = omega arith }) r.0.1.1,
        ),
      )
          (he, tt),
      elsewhere_rings Q a b c 0 0 ws (omega arith) (omega arith) (omega arith) r.1,
    )
fore_step Q e f ps ws ls c Forward (on_forward p q qs sh k op l) r le he hf hn hc =
    let h = hc (λ z. op_not_new Forward (isnt_forward) z) in
    rw l
    (fore_forward Q e f p ws q qs
    (subst (λ (v : ℕ). Given Q e f (p ∷ (q ∷ qs)) ws v (vertex f) (vertex q)) k
    (subst (λ (w : List Node). Given Q e f w ws c (vertex f) (vertex q)) sh (r, le, he, hf, h.0, h.1))))
fore_step Q e f ps ws ls c Backward (on_backward q qs p sh k op l) r le he hf hn hc =
    let h = hc (λ z. op_not_new Backward isnt_backward z) in
    rw l
    (fore_backward Q e f p ws q qs
    (subst (λ (v : ℕ). Given Q e f ((q ∷ qs) ++ (p ∷ [])) ws v (end_or (vertex q) qs) (vertex e)) k
    (subst (λ (w : List Node). Given Q e f w ws c (end_or (vertex q) qs) (vertex e)) sh (r, le, he, hf, h.0, h.1))))
fore_step Q e f ps ws ls c Close (on_close p sh k op op' l) r le he hf hn hc =
    let h = hc (λ z. op_not_new Close isnt_close z) in
    rw l
    (fore_close Q e f p ws
    (subst (λ (v : ℕ). Given Q e f (p ∷ []) ws v (vertex f) (vertex e)) k
    (subst (λ (w : List Node). Given Q e f w ws c (vertex f) (vertex e)) sh (r, le, he, hf, h.0, h.1))))
fore_step Q e f ps ws ls c (Split i) (on_split us p vs sh n lu lv k l) r le he hf hn hc =
    let h = hc (λ z. op_not_new (Split i) (isnt_split i) z) in
    rw l
    (fore_split Q e f p ws us vs
    (subst (λ (v : ℕ). Given Q e f (us ++ (p ∷ vs)) ws v (end_or (vertex f) us) (start_or (vertex e) vs)) k
    (subst (λ (w : List Node). Given Q e f w ws c (end_or (vertex f) us) (start_or (vertex e) vs)) sh (r, le, he, hf, h.0, h.1))))
fore_step Q e f ps ws ls c (Union w j) (on_union before us p vs behind sh n i k l) r le he hf hn hc =
    let h = hc (λ z. op_not_new (Union w j) (isnt_union w j) z) in
    rw l
    (fore_union Q e f p ps before us vs behind
    (subst (λ (v : ℕ). Given Q e f ps (before ++ ((us ++ (p ∷ vs)) ∷ behind)) (vertex p) (end_or (vertex p) (vs ++ us)) v)
    (sym (start_append (vertex p) vs us))
    (subst (λ (v : ℕ). Given Q e f ps (before ++ ((us ++ (p ∷ vs)) ∷ behind)) (vertex p) v (start_or (start_or (vertex p) us) vs))
    (sym (last_join (vertex p) vs us))
    (subst (λ (v : ℕ). Given Q e f ps (before ++ ((us ++ (p ∷ vs)) ∷ behind)) v (end_or (end_or (vertex p) vs) us)
    (start_or (start_or (vertex p) us) vs)) k
    (subst (λ (z : List Ring). Given Q e f ps z c (end_or (end_or (vertex p) vs) us) (start_or (start_or (vertex p) us) vs)) sh
    (r, le, he, hf, h.0, h.1))))))
fore_step Q e f ps ws ls c Border s r le he hf hn hc = elim s [ ]
fore_step Q e f ps ws ls c Start s r le he hf hn hc = elim s [ ]
