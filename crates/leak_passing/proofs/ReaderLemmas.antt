-- Two readers in a list.
use Rattle.std.proofs.Common.{◌≡◌, ℕ, inl, inr, List, [], ◌∷◌, length, get_or, set, refl, arith}
use Rattle.leak_blocks.specs.declared.block.Block.{Block}
use Rattle.leak_roots.specs.declared.skip.Skip.{Skip}
use Rattle.leak_streams.specs.declared.fault.ReadFault.{ReadFault}
use Rattle.leak_streams.specs.Reads.{Calls, IsReadWhole, IsGivenUp}
use Rattle.leak_passing.specs.declared.begun.Begun.{Begun}
use Rattle.leak_passing.specs.declared.begun.Begun.TheVariants.{Whole, Head}
use Rattle.leak_passing.specs.declared.fault.PassingFault.TheVariants.{Core, Log}
use Rattle.leak_passing.specs.declared.fault.RestFault.{RestFault}
use Rattle.leak_passing.specs.declared.fault.RestFault.TheVariants.{Read, Short}
use Rattle.leak_passing.specs.declared.passing.Limits.{Limits}
use Rattle.leak_passing.specs.Begun.{IsBegun}
use Rattle.leak_passing.specs.Kept.{IsKept, Keeps}
use Rattle.leak_passing.specs.Rest.{IsRestFault, at_rest}
use Rattle.leak_passing.specs.Passed.{AreTwo, BeginsBoth, IsPassingFault, IsReadSomeWay, Passes}

-- the first reader was read some way, and the second not
module _ {R : Type 0} (calls : Calls R) (limits : Limits) (skip : Skip) where
  some_way : (first last : R) (begun : Begun) → IsBegun calls limits.core first last skip begun → IsReadSomeWay calls limits.core first last
  some_way first last (Whole bytes) is = inl (bytes.items, is)
  some_way first last (Head front) is = inr (record { bytes = front.held.items; interruptions = front.reading.interruptions }, is.come.come)

  -- the core was given up before the log was read,
  pub core_refused : (readers : List R) (d a : R) (f : ReadFault) → length readers ≡ 2 → IsGivenUp calls limits.core (get_or readers 0 d) a f
      → AreTwo readers (set readers 0 a) (IsPassingFault calls limits (Core f))
  core_refused [] d a f two up = absurd (omega (arith, two))
  core_refused (x ∷ []) d a f two up = absurd (omega (arith, two))
  core_refused (x ∷ (y ∷ [])) d a f two up = record {
    was = record { core = x; log = y };
    is = record { core = a; log = y };
    were = refl;
    are = refl;
    holds = (up, inl refl);
  }
  core_refused (x ∷ (y ∷ (z ∷ zs))) d a f two up = absurd (omega (arith, two))

  -- the log, when the core was begun,
  pub log_refused : (readers : List R) (d e a b : R) (begun : Begun) (f : ReadFault) → length readers ≡ 2 → IsBegun calls limits.core (get_or readers 0 d) a skip begun
      → IsGivenUp calls limits.log (get_or (set readers 0 a) 1 e) b f → AreTwo readers (set (set readers 0 a) 1 b) (IsPassingFault calls limits (Log f))
  log_refused [] d e a b begun f two is up = absurd (omega (arith, two))
  log_refused (x ∷ []) d e a b begun f two is up = absurd (omega (arith, two))
  log_refused (x ∷ (y ∷ [])) d e a b begun f two is up = record {
    was = record { core = x; log = y };
    is = record { core = a; log = b };
    were = refl;
    are = refl;
    holds = (up, some_way x a begun is);
  }
  log_refused (x ∷ (y ∷ (z ∷ zs))) d e a b begun f two is up = absurd (omega (arith, two))

  -- or the log was read
  pub begins_both : (readers : List R) (d e a b : R) (begun : Begun) (log : List ℕ) → length readers ≡ 2 → IsBegun calls limits.core (get_or readers 0 d) a skip begun
      → IsReadWhole calls limits.log (get_or (set readers 0 a) 1 e) b log → AreTwo readers (set (set readers 0 a) 1 b) (BeginsBoth calls limits skip begun log)
  begins_both [] d e a b begun log two is whole = absurd (omega (arith, two))
  begins_both (x ∷ []) d e a b begun log two is whole = absurd (omega (arith, two))
  begins_both (x ∷ (y ∷ [])) d e a b begun log two is whole = record {
    was = record { core = x; log = y };
    is = record { core = a; log = b };
    were = refl;
    are = refl;
    holds = record { core_begun = is; log_read = whole };
  }
  begins_both (x ∷ (y ∷ (z ∷ zs))) d e a b begun log two is whole = absurd (omega (arith, two))

  module _ (readers mid : List R) (h : R) (begun : Begun) (log : List ℕ) (two : AreTwo readers mid (BeginsBoth calls limits skip begun log)) where
    -- the core is the first of the two still
    pub core_begun : IsBegun calls limits.core two.was.core (get_or mid 0 h) skip begun
    core_begun = rw (two.are) two.holds.core_begun

    -- then nothing was kept of it,
    pub rest_refused : (k : R) (f : RestFault) → ((first : R) → IsBegun calls limits.core first (get_or mid 0 h) skip begun → IsRestFault calls limits.core first k f)
        → AreTwo readers (set mid 0 k) (IsPassingFault calls limits (at_rest f))
    rest_refused k (Read f) up = record {
      was = two.was;
      is = record { core = k; log = two.is.log };
      were = two.were;
      are = rw (two.are) refl;
      holds = (up two.was.core core_begun, inr (log, two.holds.log_read));
    }
    rest_refused k Short up = record {
      was = two.was;
      is = record { core = k; log = two.is.log };
      were = two.were;
      are = rw (two.are) refl;
      holds = (up two.was.core core_begun, (log, two.holds.log_read));
    }

    -- or both were read to their ends
    pub both_read : (k : R) (IsOf : List ℕ → List ℕ → Type 0) (blocks : List Block) (held words : List ℕ) (len : ℕ)
        → ((first : R) → IsBegun calls limits.core first (get_or mid 0 h) skip begun → Keeps calls limits.core first k skip blocks held words len)
        → ((core : List ℕ) → IsKept core skip blocks held words len → IsOf core log) → AreTwo readers (set mid 0 k) (Passes calls limits IsOf)
    both_read k IsOf blocks held words len keeps passes =
        let kept = keeps two.was.core core_begun in
        record {
          was = two.was;
          is = record { core = k; log = two.is.log };
          were = two.were;
          are = rw (two.are) refl;
          holds = record {
            core = kept.core;
            log = log;
            core_read = kept.whole;
            log_read = two.holds.log_read;
            passed_is = passes kept.core kept.kept;
          };
        }
