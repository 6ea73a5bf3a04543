-- A directory leads to the blocks of one page, and so to how many begin at an address or before it.
use Rattle.std.proofs.Common.{◌≡◌, ◌∙◌, ℕ, zero, suc, ◌+◌, ◌-◌, ◌/◌, ◌<◌, ◌≤◌, ap, subst, List, [], ◌∷◌, length, slice_index_or, take, drop, arith}
use Rattle.std.specs.List.{AllByRecursion, Contains}
use Rattle.std.specs.List.Sorted.{IsStrictlyIncreasing, IsNonDecreasingBy}
use Rattle.std.proofs.lemmas.List.Sorted.{IsNonDecreasingBy-from_all_adjacent}
use Rattle.std.proofs.lemmas.Grind.{get_or_default_zero}
use Rattle.std.proofs.lemmas.List.{get_or-drop, get_or-take}
use Rattle.leak_blocks.specs.declared.block.Block.{Block}
use Rattle.leak_blocks.specs.Span.{AreDisjoint, span_end}
use Rattle.leak_index.specs.Bounds.{IsCountUpTo, IsNarrowedTo}
use Rattle.leak_index.specs.Directory.{AreUpTo, IsDirectory, IsFirstIn, page_of}
use Rattle.leak_index.proofs.Near.{ascending, either}

-- pages by number ascend
pub rising : (pages : List ℕ) → IsStrictlyIncreasing pages → IsNonDecreasingBy (λ n. n) pages
rising pages up = IsNonDecreasingBy-from_all_adjacent (λ n. n) pages (λ k d h. omega (arith, up k h, get_or_default_zero pages k d (omega (arith, h)), get_or_default_zero pages (k + 1) d h))

-- the pages up to that of the entry are not above the page, and the next one is
pub last_entry : (pages : List ℕ) (page e d : ℕ) → IsStrictlyIncreasing pages → e < length pages → slice_index_or pages e d ≤ page → ((f : ℕ) → e + 1 < length pages → page < slice_index_or pages (e + 1) f) → AreUpTo pages page (e + 1)
last_entry pages page e d up h low high = record {
  bound = omega (arith, h);
  within = λ k f l. omega (arith, rising pages up k e f (omega (arith, l)) h, get_or_default_zero pages e f h, get_or_default_zero pages e d h, low);
  beyond = λ k f l m. omega (arith, high f (omega arith), rising pages up (e + 1) k f l m);
}

-- what lies in a page below lies below
below : (a b : ℕ) → a / 4096 < b / 4096 → a < b
below a b h = omega (arith, h)

none : Block
none = record { start = 0; size = 0; line = 0; caller = (0, 0) }

-- ---- the blocks of one page

-- the page of each block is above that of the address
pub narrowed_none : (bs : List Block) (pages firsts : List ℕ) (w : ℕ) → IsDirectory bs pages firsts → ((k : ℕ) → k < length pages → w / 4096 < slice_index_or pages k 0) → IsNarrowedTo bs w 0 0
narrowed_none bs pages firsts w directory above = record {
  order = omega arith;
  bound = omega arith;
  before = λ k d h. absurd (omega (arith, h));
  behind = λ k d h l. at k d (directory.complete k d l);
}
  where
    at : (k : ℕ) (d : Block) → Contains pages (page_of (slice_index_or bs k d)) → w < (slice_index_or bs k d).start
    at k d (j, l, e) = below w (slice_index_or bs k d).start (omega (arith, above j l, get_or_default_zero pages j (page_of (slice_index_or bs k d)) l, e))

-- the last page that isn't above has the number m
pub narrowed : (bs : List Block) (pages firsts : List ℕ) (w m high : ℕ) → AreDisjoint bs → IsDirectory bs pages firsts → m < length pages → slice_index_or pages m 0 ≤ w / 4096 → high ≤ length bs →
    ((k : ℕ) (d : Block) → high ≤ k → k < length bs → w < (slice_index_or bs k d).start) → IsNarrowedTo bs w (slice_index_or firsts m 0) high
narrowed bs pages firsts w m high apart directory inside here bound behind = record {
  order = either high (slice_index_or firsts m 0) (slice_index_or firsts m 0 ≤ high) (λ h. absurd (omega (arith, before high none h, behind high none (omega arith) (omega (arith, h, first.inside))))) (λ h. h);
  bound = bound;
  before = λ k d h. omega (arith, before k d h);
  behind = behind;
}
  where
    first : IsFirstIn bs (slice_index_or pages m 0) (slice_index_or firsts m 0)
    first = directory.first m inside

    before : (k : ℕ) (d : Block) → k < slice_index_or firsts m 0 → (slice_index_or bs k d).start < w
    before k d h = below (slice_index_or bs k d).start w (omega (arith, first.earlier k d h, here))

-- the blocks of a page above begin after
pub behind_page : (bs : List Block) (pages firsts : List ℕ) (w m : ℕ) → AreDisjoint bs → IsDirectory bs pages firsts → m < length pages → w / 4096 < slice_index_or pages m 0 →
    (k : ℕ) (d : Block) → slice_index_or firsts m 0 ≤ k → k < length bs → w < (slice_index_or bs k d).start
behind_page bs pages firsts w m apart directory inside above k d h l =
    let first = directory.first m inside in
    omega (arith, below w (slice_index_or bs (slice_index_or firsts m 0) d).start (omega (arith, first.here d, above)), ascending bs apart (slice_index_or firsts m 0) k d h l)

-- ---- the count

apart_drop : (n : ℕ) (bs : List Block) → AreDisjoint bs → AreDisjoint (drop n bs)
apart_drop zero bs apart = apart
apart_drop (suc n) [] apart = tt
apart_drop (suc n) (b ∷ bs) apart = apart_drop n bs apart.1

all_take : (P : Block → Type 0) (n : ℕ) (bs : List Block) → AllByRecursion P bs → AllByRecursion P (take n bs)
all_take P zero bs all = tt
all_take P (suc n) [] all = tt
all_take P (suc n) (b ∷ bs) all = (all.0, all_take P n bs all.1)

apart_take : (n : ℕ) (bs : List Block) → AreDisjoint bs → AreDisjoint (take n bs)
apart_take zero bs apart = tt
apart_take (suc n) [] apart = tt
apart_take (suc n) (b ∷ bs) apart = (all_take (λ c. span_end b ≤ c.start) n bs apart.0, apart_take n bs apart.1)

pub apart_part : (n m : ℕ) (bs : List Block) → AreDisjoint bs → AreDisjoint (take m (drop n bs))
apart_part n m bs apart = apart_take m (drop n bs) (apart_drop n bs apart)

pub counted : (bs part : List Block) (w low high n : ℕ) → part ≡ take (high - low) (drop low bs) → length part ≡ high - low → IsNarrowedTo bs w low high → IsCountUpTo part w n → IsCountUpTo bs w (low + n)
counted bs part w low high n is len narrow up = record {
  bound = omega (arith, up.bound, narrow.bound, narrow.order);
  within = λ k d h. either k low ((slice_index_or bs k d).start ≤ w) (λ l. narrow.before k d l) (λ l. subst (λ (b : Block). b.start ≤ w) (moved k d l (omega (arith, up.bound))) (up.within (k - low) d (omega arith)));
  beyond = λ k d h l. either k high (w < (slice_index_or bs k d).start) (λ m. subst (λ (b : Block). w < b.start) (moved k d (omega arith) m) (up.beyond (k - low) d (omega arith) (omega arith))) (λ m. narrow.behind k d m l);
}
  where
    moved : (k : ℕ) (d : Block) → low ≤ k → k < high → slice_index_or part (k - low) d ≡ slice_index_or bs k d
    moved k d l m =
        let at : low + (k - low) ≡ k = omega arith in
        ap (λ (xs : List Block). slice_index_or xs (k - low) d) is ∙ get_or-take (high - low) (drop low bs) (k - low) d (omega arith) ∙ get_or-drop low bs (k - low) d ∙ ap (λ (j : ℕ). slice_index_or bs j d) at
