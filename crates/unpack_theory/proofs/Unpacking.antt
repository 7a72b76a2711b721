-- From the run's answer to the unpacking's.
-- Assumes nothing.
use Prim.Native.Nat.{ℕ, suc, ◌+◌, ◌*◌}
use native.Mathlib.Omega.{arith}
use mathlib.Core.Bool.{true, false, ◌&&◌}
use mathlib.Core.List.{List}
use mathlib.Core.Path.{◌≡◌, sym, ap, ◌∙◌, subst}
use lib.ListN.{length}
use lib.Dec.{leb}
use Rattle.rules.specs.declared.Counts.{Counts}
use Rattle.rules.specs.Unpacked.{Unpacked}
use Rattle.rules.specs.Unpacked as U
use Rattle.rules.specs.Limits.{max_places, max_vertices, in_range}
use Rattle.rules.specs.Bits.{bits_of_bytes}
use Rattle.rules.specs.Fields.{fields, fields_of}
use Rattle.rules.specs.Machine.{empty}
use Rattle.rules.specs.Answer.{unpacked_answer}
use Rattle.rules.specs.Unpack.{UnpackResult, turned_down, run_all, run_of}
use Rattle.wire_theory.proofs.Bytes.{length_bits_of_bytes}
use Rattle.mesh_theory.specs.Chains.Linked.{Chains}
use Rattle.cutborder.specs.declared.Front.{Front}
use Rattle.border_theory.specs.Memory.Fresh.{all_free, fresh_front}
use Rattle.border_theory.specs.Records.Lent.{lent}
use Rattle.unpack_theory.specs.Stepped.{Stepped}
use Rattle.unpack_theory.specs.Runs.{Runs, Held, Beyond, Ends, RunOf, Ended, Answers, tidied}
use Rattle.unpack_theory.specs.Lent.{unpack_on, UnpackedOn, Fitting, RunGives}
use Rattle.unpack_theory.proofs.Starting.{starts_empty}
use Rattle.unpack_theory.proofs.Looping.{ends_ended}
use Rattle.unpack_theory.proofs.Lending.{short_is, enough_is, run_answer, run_triangles}

-- the first state, as the code makes it
module _ (c : Counts) (ops ts m : List ℕ) (f : Fitting c ops ts m) (s : Front) (es : s ≡ fresh_front max_places c) (m₁ : List ℕ)
    (em : m₁ ≡ all_free max_places m max_places) (cs : List ℕ) (none : Chains ts 0 cs) (ks : List ℕ)
    (noted : length ks ≡ max_vertices) where
  first : Runs (empty c) s ts m₁ cs ks
  first = rw (es, em) (starts_empty c f.ranges m f.whole ts f.room cs none ks noted)

  pub first_held : Held s ts m₁ cs ks
  first_held = record { machine = empty c; runs = first }

  module _ (budget : ℕ) (eb : budget ≡ 8 * length ops + 1) (e : Stepped) (ts₁ m₂ cs₁ ks₁ : List ℕ)
      (ran : RunOf ops budget s ts m₁ cs ks e ts₁ m₂ cs₁ ks₁) where
    fuel : budget ≡ suc (length (bits_of_bytes ops))
    fuel = omega (arith, eb, length_bits_of_bytes ops)

    ends : Ends (run_of c ops) ops c e ts₁ m₂ cs₁ ks₁
    ends =
        subst (λ (k : ℕ). Ends (run_all k (empty c) (bits_of_bytes ops)) ops c e ts₁ m₂ cs₁ ks₁) fuel
        (subst (λ (d : Counts). Ends (run_all budget (empty c) (bits_of_bytes ops)) ops d e ts₁ m₂ cs₁ ks₁)
        (ap (λ (x : Front). x.stated) es)
        (ran (empty c) first))

    pub first_ended : Ended e ts₁ cs₁ ks₁
    first_ended = ends_ended (run_of c ops) ops c e ts₁ m₂ cs₁ ks₁ ends

    pub run_gives : Beyond s.stated ts ts₁ → (r : Unpacked) → Answers ops e ts₁ cs₁ ks₁ (unpacked_answer r) → (ts' : List ℕ)
        → ts' ≡ tidied r (3 * c.triangles) ts₁ → RunGives c ops ts r ts'
    run_gives b r a ts' et = record {
      answer = λ n. run_answer c ops ts n (run_of c ops) r e ts₁ m₂ cs₁ ks₁ ends a;
      triangles = λ n.
          et
          ∙ run_triangles c ops ts n (run_of c ops) r e ts₁ m₂ cs₁ ks₁ ends
          (subst (λ (d : Counts). Beyond d ts ts₁) (ap (λ (x : Front). x.stated) es) b) a;
    }

-- an unpacking that is turned down changes nothing
pub turned_on : (bytes : List ℕ) (n : ℕ) (ts : List ℕ) (k : ℕ) → unpack_on bytes n ts ≡ turned_down k (lent n ts)
    → UnpackedOn bytes ts n (U.Refused k) ts
turned_on bytes n ts k e = record {
  answer = sym (ap (λ (x : UnpackResult). x.answer) e);
  triangles = sym (ap (λ (x : UnpackResult). x.buffers.triangles) e);
}

module _ (bytes : List ℕ) (n : ℕ) (ts : List ℕ) (c : Counts) (ops : List ℕ) (found : fields_of bytes ≡ fields c ops)
    (ranges : in_range c ≡ true) where
  -- 14
  pub short_on : leb (3 * c.triangles) (length ts) && leb max_places n ≡ false → UnpackedOn bytes ts n (U.Refused 14) ts
  short_on h = turned_on bytes n ts 14 (short_is bytes n ts c ops found ranges h)

  -- past it
  pub run_on : leb (3 * c.triangles) (length ts) && leb max_places n ≡ true → (r : Unpacked) (ts' : List ℕ) → RunGives c ops ts r ts'
      → UnpackedOn bytes ts n r ts'
  run_on l r ts' g = record {
    answer = g.answer n ∙ sym (ap (λ (x : UnpackResult). x.answer) (enough_is bytes n ts c ops found ranges l));
    triangles = g.triangles n ∙ sym (ap (λ (x : UnpackResult). x.buffers.triangles) (enough_is bytes n ts c ops found ranges l));
  }
