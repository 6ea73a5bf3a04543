-- Going over the program headers from the first on.
use Rattle.std.proofs.Common.{◌++◌, ◌≡◌, ℕ, zero, suc, true, false, ◌+◌, ◌<◌, ◌≤◌, List, [], ◌∷◌, ap, arith, length, get_or, take, drop, Option, Some, None, refl, sym, ◌∙◌, add-one}
use Rattle.std.proofs.Math.Seq.{drop-cons}
use Rattle.std.proofs.lemmas.List.{take_more}
use Rattle.std.specs.Option.{option_or}
use Rattle.leak_elf.specs.declared.header.Header.{Header}
use Rattle.leak_elf.specs.declared.error.ElfError.{ElfError}
use Rattle.leak_elf.specs.declared.error.ElfError.TheVariants.{Overlap}
use Rattle.leak_elf.specs.Refusals.{extent_faults, extent_fault, overlaps, header_fault, faults_from, IsMeetingBefore}
use Rattle.leak_elf.specs.Segments.{meet_within}
use Rattle.leak_elf.proofs.Meeting.{all_apart, overlap_at}
use Rattle.leak_elf.proofs.Plain.{first_fault-append}
use Rattle.std.proofs.lemmas.List.{drop_all}

-- the first fault of the headers from the number on
abbrev pub left : List ℕ → List Header → ℕ → Option ElfError
left file hs i = faults_from file (take i hs) i (drop i hs)

step : (file : List ℕ) (hs : List Header) (i : ℕ) (d : Header) → i < length hs → left file hs i ≡ option_or (header_fault file (take i hs) i (get_or hs i d)) (left file hs (i + 1))
step file hs i d h =
    let e : drop i hs ≡ get_or hs i d ∷ drop (i + 1) hs = rw (add-one, drop-cons hs i d) refl in
    rw (e, take_more hs i d h) refl

-- the header has no fault
pub goes_on : (file : List ℕ) (hs : List Header) (i : ℕ) (d : Header) → i < length hs → header_fault file (take i hs) i (get_or hs i d) ≡ None → left file hs (i + 1) ≡ left file hs i
goes_on file hs i d h none = sym (step file hs i d h ∙ rw none refl)

-- the header's fault is the first
pub ends : (file : List ℕ) (hs : List Header) (i : ℕ) (d : Header) (e : ElfError) → i < length hs → header_fault file (take i hs) i (get_or hs i d) ≡ Some e → left file hs i ≡ Some e
ends file hs i d e h some = step file hs i d h ∙ rw some refl

-- what a header's faults are by those of the header by itself
none_by_itself : (file : List ℕ) (before : List Header) (i : ℕ) (h : Header) → extent_fault file i h ≡ None → overlaps before h ≡ false → header_fault file before i h ≡ None
unfolding extent_fault header_fault
none_by_itself file before i h e o = first_fault-append (extent_faults file i h) ((overlaps before h, Overlap i) ∷ []) ∙ rw (e, o) refl

extent_first : (file : List ℕ) (before : List Header) (i : ℕ) (h : Header) (x : ElfError) → extent_fault file i h ≡ Some x → header_fault file before i h ≡ Some x
unfolding extent_fault header_fault
extent_first file before i h x e = first_fault-append (extent_faults file i h) ((overlaps before h, Overlap i) ∷ []) ∙ rw e refl

overlap_last : (file : List ℕ) (before : List Header) (i : ℕ) (h : Header) → extent_fault file i h ≡ None → overlaps before h ≡ true → header_fault file before i h ≡ Some (Overlap i)
unfolding extent_fault header_fault
overlap_last file before i h e o = first_fault-append (extent_faults file i h) ((overlaps before h, Overlap i) ∷ []) ∙ rw (e, o) refl

-- the first headers have no fault by themselves
abbrev pub Extents : List ℕ → List Header → ℕ → Type 0
Extents file hs n = (k : ℕ) (d : Header) → k < n → extent_fault file k (get_or hs k d) ≡ None

passes : (file : List ℕ) (hs : List Header) (i : ℕ) (d : Header) → i ≤ length hs → ((k : ℕ) → k < i → header_fault file (take k hs) k (get_or hs k d) ≡ None) → left file hs i ≡ left file hs 0
passes file hs zero d b h = refl
passes file hs (suc i) d b h =
    let more : suc i ≡ i + 1 = omega arith in
    ap (left file hs) more ∙ goes_on file hs i d (omega arith) (h i (omega arith)) ∙ passes file hs i d (omega arith) (λ k l. h k (omega arith))

fine_until : (file : List ℕ) (hs : List Header) (i : ℕ) (d : Header) → i ≤ length hs → Extents file hs i → meet_within hs i ≡ false → left file hs i ≡ left file hs 0
fine_until file hs i d b e m = passes file hs i d b (λ k l. none_by_itself file (take k hs) k (get_or hs k d) (e k d l) (all_apart hs i d b m k l))

abbrev none : Header
none = record { kind = 0; flags = 0; offset = 0; vaddr = 0; filesz = 0; memsz = 0 }

-- no header has a fault
pub all_fine : (file : List ℕ) (hs : List Header) (i : ℕ) → length hs ≤ i → Extents file hs i → meet_within hs (length hs) ≡ false → faults_from file [] 0 hs ≡ None
all_fine file hs i b e m =
    sym (fine_until file hs (length hs) none (omega arith) (λ k d l. e k d (omega arith)) m)
    ∙ ap (faults_from file (take (length hs) hs) (length hs)) (drop_all (length hs) hs (omega arith))

-- a header has a fault by itself, and those before it have none
pub ends_by_itself : (file : List ℕ) (hs : List Header) (i : ℕ) (d : Header) (x : ElfError) → i < length hs → Extents file hs i → meet_within hs i ≡ false → extent_fault file i (get_or hs i d) ≡ Some x → faults_from file [] 0 hs ≡ Some x
ends_by_itself file hs i d x b e m f =
    sym (fine_until file hs i d (omega arith) e m) ∙ ends file hs i d x b (extent_first file (take i hs) i (get_or hs i d) x f)

-- a header overlaps an earlier one, and has no other fault
pub ends_by_overlap : (file : List ℕ) (hs : List Header) (i : ℕ) (x : ElfError) → i ≤ length hs → Extents file hs i → IsMeetingBefore hs i x → faults_from file [] 0 hs ≡ Some x
ends_by_overlap file hs i x b e m =
    let n = m.at in
    let l = m.before in
    let o = overlap_at hs n none (omega arith) m.apart m.meets in
    sym (fine_until file hs n none (omega arith) (λ k d q. e k d (omega arith)) m.apart)
    ∙ ends file hs n none (Overlap n) (omega arith) (overlap_last file (take n hs) n (get_or hs n none) (e n none (omega arith)) o)
    ∙ ap (λ (y : ElfError). Some y) (sym m.is)

-- the faults of the headers go by the file's length alone
one_by_length : (file other : List ℕ) (before : List Header) (i : ℕ) (h : Header) → length file ≡ length other → header_fault file before i h ≡ header_fault other before i h
unfolding header_fault
one_by_length file other before i h e = rw e refl

pub by_length : (file other : List ℕ) (before : List Header) (i : ℕ) (hs : List Header) → length file ≡ length other → faults_from file before i hs ≡ faults_from other before i hs
by_length file other before i [] e = refl
by_length file other before i (h ∷ hs) e = rw (one_by_length file other before i h e, by_length file other (before ++ h ∷ []) (i + 1) hs e) refl
