-- The blocks of all allocations have the places of the log's allocations.
use Rattle.std.proofs.Common.{◌≡◌, ℕ, ◌+◌, ◌^◌, ◌<◌, Bool, true, false, ◌&&◌, List, [], ◌∷◌, ◌++◌, map, filter, cond, refl, sym, subst, ap, ◌∙◌, append-nil, nat_lt, if◌then◌else◌, ap₂}
use Rattle.std.specs.List.{AllByRecursion}
use Rattle.std.proofs.lemmas.List.{map-append}
use Rattle.std.proofs.lemmas.List.Elements.{filter-append}
use Rattle.leak_mtrace.specs.declared.line.Line.{Line}
use Rattle.leak_mtrace.specs.Log.{LinesFit}
use Rattle.leak_blocks.specs.declared.block.Block.{Block}
use Rattle.leak_blocks.specs.declared.small.Span.{Span}
use Rattle.leak_blocks.specs.Live.{block_of, is_allocation}
use Rattle.leak_blocks.specs.Numbers.{places_of, HavePlacesOf}
use Rattle.leak_blocks.specs.Small.{is_small, span_of, span_at, small_spans_of, is_small_block, block_span, small_block_spans}
use Rattle.leak_blocks.specs.Span.{IsAddressed, AreAddressed}
use Rattle.leak_blocks.specs.Windows.{allocated_by, grown_by}
use Rattle.leak_blocks.proofs.LineLemmas.{addressed_line}

abbrev place : Block → ℕ × ℕ
place b = (b.start, b.size)

abbrev line_place : Line → ℕ × ℕ
line_place x = (x.addr, x.size)

-- ---- one line more

alone : (x : Line) (t : Bool) → is_allocation x ≡ t → filter is_allocation (x ∷ []) ≡ cond t (x ∷ []) []
alone x t e = ap (λ (s : Bool). cond s (x ∷ []) []) e

places_more : (lines : List Line) (x : Line) → places_of (lines ++ x ∷ []) ≡ places_of lines ++ map line_place (filter is_allocation (x ∷ []))
places_more lines x = ap (map line_place) (filter-append is_allocation lines (x ∷ [])) ∙ map-append line_place (filter is_allocation lines) (filter is_allocation (x ∷ []))

pub places_grown : (lines : List Line) (x : Line) (number : ℕ) (allocated longer : List Block) → is_allocation x ≡ true → longer ≡ allocated ++ block_of number x ∷ [] → HavePlacesOf lines allocated → HavePlacesOf (lines ++ x ∷ []) longer
places_grown lines x number allocated longer a l h =
    ap (map place) l
    ∙ map-append place allocated (block_of number x ∷ [])
    ∙ ap (λ (ps : List (ℕ × ℕ)). ps ++ line_place x ∷ []) h
    ∙ sym (places_more lines x ∙ ap (λ (xs : List Line). places_of lines ++ map line_place xs) (alone x true a))

pub places_kept : (lines : List Line) (x : Line) (allocated : List Block) → is_allocation x ≡ false → HavePlacesOf lines allocated → HavePlacesOf (lines ++ x ∷ []) allocated
places_kept lines x allocated a h =
    h ∙ sym (places_more lines x ∙ ap (λ (xs : List Line). places_of lines ++ map line_place xs) (alone x false a) ∙ append-nil (places_of lines))

-- ---- one line more, or more lines, as a replay holds their blocks

pub places_stepped : (lines : List Line) (x : Line) (number : ℕ) (old new : List Block) → new ≡ grown_by number x old → HavePlacesOf lines old → HavePlacesOf (lines ++ x ∷ []) new
places_stepped lines x number old new e h = go (is_allocation x) refl
  where
    grown : (t : Bool) → is_allocation x ≡ t → new ≡ (if t then old ++ block_of number x ∷ [] else old)
    grown t a = e ∙ ap (λ (s : Bool). if s then old ++ block_of number x ∷ [] else old) a

    go : (t : Bool) → is_allocation x ≡ t → HavePlacesOf (lines ++ x ∷ []) new
    go true a = places_grown lines x number old new a (grown true a) h
    go false a = subst (HavePlacesOf (lines ++ x ∷ [])) (sym (grown false a)) (places_kept lines x old a h)

allocated_places : (n : ℕ) (lines : List Line) → map place (allocated_by n lines) ≡ places_of lines
allocated_places n [] = refl
allocated_places n (x ∷ lines) = go (is_allocation x) (allocated_places (n + 1) lines)
  where
    go : (t : Bool) → map place (allocated_by (n + 1) lines) ≡ places_of lines
        → map place (if t then block_of (n + 1) x ∷ allocated_by (n + 1) lines else allocated_by (n + 1) lines) ≡ map line_place (cond t (x ∷ filter is_allocation lines) (filter is_allocation lines))
    go true rest = ap (λ (ps : List (ℕ × ℕ)). line_place x ∷ ps) rest
    go false rest = rest

pub places_by : (lines more : List Line) (n : ℕ) (old new : List Block) → new ≡ old ++ allocated_by n more → HavePlacesOf lines old → HavePlacesOf (lines ++ more) new
places_by lines more n old new e h =
    ap (map place) e
    ∙ map-append place old (allocated_by n more)
    ∙ ap₂ (λ (ps qs : List (ℕ × ℕ)). ps ++ qs) h (allocated_places n more)
    ∙ sym (ap (map line_place) (filter-append is_allocation lines more) ∙ map-append line_place (filter is_allocation lines) (filter is_allocation more))

-- ---- they end within the address space

record IsWithin (p : ℕ × ℕ) : Type 0 where
  above : 0 < p.0
  fits : p.0 + p.1 < 2 ^ 64

lines_within : (lines : List Line) → LinesFit lines → AllByRecursion IsWithin (places_of lines)
lines_within [] h = tt
lines_within (x ∷ xs) h = go (is_allocation x) refl (lines_within xs h.1)
  where
    go : (t : Bool) → is_allocation x ≡ t → AllByRecursion IsWithin (places_of xs) → AllByRecursion IsWithin (map line_place (cond t (x ∷ filter is_allocation xs) (filter is_allocation xs)))
    go true a rest = (let is_addressed : IsAddressed (block_of 0 x) = addressed_line x 0 a h.0 in record { above = is_addressed.above; fits = is_addressed.fits }, rest)
    go false a rest = rest

blocks_within : (blocks : List Block) → AllByRecursion IsWithin (map place blocks) → AreAddressed blocks
blocks_within [] h = tt
blocks_within (b ∷ bs) h = (record { above = h.0.above; fits = h.0.fits }, blocks_within bs h.1)

pub places_addressed : (lines : List Line) (blocks : List Block) → LinesFit lines → HavePlacesOf lines blocks → AreAddressed blocks
places_addressed lines blocks fit h = blocks_within blocks (subst (AllByRecursion IsWithin) (sym h) (lines_within lines fit))

-- ---- their small spans

abbrev small_of_places : List (ℕ × ℕ) → List Span
small_of_places places = map (λ p. span_at p.0 p.1) (filter (λ p. nat_lt p.1 131072) places)

of_lines : (lines : List Line) → map span_of (filter is_small lines) ≡ small_of_places (places_of lines)
of_lines [] = refl
of_lines (x ∷ xs) = go (is_allocation x) (of_lines xs)
  where
    picked : (t : Bool) → map span_of (filter is_small xs) ≡ small_of_places (places_of xs)
        → map span_of (cond t (x ∷ filter is_small xs) (filter is_small xs)) ≡ map (λ p. span_at p.0 p.1) (cond t (line_place x ∷ filter (λ p. nat_lt p.1 131072) (places_of xs)) (filter (λ p. nat_lt p.1 131072) (places_of xs)))
    picked true rest = ap (λ (l : List Span). span_of x ∷ l) rest
    picked false rest = rest

    go : (s : Bool) → map span_of (filter is_small xs) ≡ small_of_places (places_of xs)
        → map span_of (cond (s && nat_lt x.size 131072) (x ∷ filter is_small xs) (filter is_small xs)) ≡ small_of_places (map line_place (cond s (x ∷ filter is_allocation xs) (filter is_allocation xs)))
    go true rest = picked (nat_lt x.size 131072) rest
    go false rest = rest

of_blocks : (blocks : List Block) → map block_span (filter is_small_block blocks) ≡ small_of_places (map place blocks)
of_blocks [] = refl
of_blocks (b ∷ bs) = go (nat_lt b.size 131072) (of_blocks bs)
  where
    go : (t : Bool) → map block_span (filter is_small_block bs) ≡ small_of_places (map place bs)
        → map block_span (cond t (b ∷ filter is_small_block bs) (filter is_small_block bs)) ≡ map (λ p. span_at p.0 p.1) (cond t (place b ∷ filter (λ p. nat_lt p.1 131072) (map place bs)) (filter (λ p. nat_lt p.1 131072) (map place bs)))
    go true rest = ap (λ (l : List Span). block_span b ∷ l) rest
    go false rest = rest

pub same_small : (lines : List Line) (blocks : List Block) → HavePlacesOf lines blocks → small_block_spans blocks ≡ small_spans_of lines
unfolding small_block_spans small_spans_of
same_small lines blocks h = of_blocks blocks ∙ ap small_of_places h ∙ sym (of_lines lines)
