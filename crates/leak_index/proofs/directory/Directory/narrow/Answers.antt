-- The last page that isn't above the address is where the search among pages ends.
use Rattle.std.proofs.Common.{◌≡◌, ◌∙◌, ℕ, ◌-◌, ◌<◌, ◌≤◌, length, slice_index_or, sym, subst, arith}
use Rattle.std.proofs.lemmas.Grind.{get_or_default_zero}
use Rattle.leak_index.specs.Bounds.{IsNarrowedTo}
use Rattle.leak_index.proofs.Narrowing.{narrowed_none, narrowed, behind_page}
use Rattle.leak_index.proofs.directory.Directory.narrow.Goals as goal

pub returns-then-entries-eq0 : goal.returns-then-entries-eq0
returns-then-entries-eq0 c =
    let up = c.count_entries-entries.ensures in
    narrowed_none _ _ _ _ c.requires.directory (λ k h. up.beyond k 0 (omega arith) h)

pub returns-then-entries-len : goal.returns-then-entries-len
returns-then-entries-len c =
    let up = c.count_entries-entries.ensures in
    let firsts = c.args.self.now.firsts.items in
    let last : ℕ = c.count_entries-entries.result - 1 in
    let all : c.count_entries-entries.result ≡ length firsts = c.if-entries-len.true ∙ c.len.ensures ∙ c.args.self.now.firsts.ok.0 in
    let low : c.index-low.result.now ≡ slice_index_or firsts last 0 = c.index-low.ensures ∙ get_or_default_zero firsts last _ (omega arith) in
    subst (λ (n : ℕ). IsNarrowedTo c.args.blocks.now c.args.address n (length c.args.blocks.now)) (sym low)
    (narrowed _ _ _ _ last _ c.requires.disjoint c.requires.directory (omega (arith, up.bound)) (up.within last 0 (omega arith)) (omega arith) (λ k d h l. absurd (omega (arith, h, l))))

pub returns : goal.returns
returns c =
    let up = c.count_entries-entries.ensures in
    let firsts = c.args.self.now.firsts.items in
    let next : ℕ = c.count_entries-entries.result in
    let last : ℕ = next - 1 in
    let len : c.len.result ≡ length firsts = c.len.ensures ∙ c.args.self.now.firsts.ok.0 in
    let inside : next < length c.args.self.now.pages.items = omega (arith, up.bound, c.requires.directory.paired, c.if-entries-len.false) in
    let low : c.index-low.result.now ≡ slice_index_or firsts last 0 = c.index-low.ensures ∙ get_or_default_zero firsts last _ (omega (arith, c.requires.directory.paired)) in
    let high : c.index.result.now ≡ slice_index_or firsts next 0 = c.index.ensures ∙ get_or_default_zero firsts next _ (omega (arith, c.requires.directory.paired)) in
    let behind = behind_page _ _ _ c.args.address next c.requires.disjoint c.requires.directory inside (up.beyond next 0 (omega arith) inside) in
    let bound : slice_index_or firsts next 0 ≤ length c.args.blocks.now = omega (arith, (c.requires.directory.first next inside).inside) in
    subst (λ (n : ℕ). IsNarrowedTo c.args.blocks.now c.args.address n c.index.result.now) (sym low)
    (subst (λ (n : ℕ). IsNarrowedTo c.args.blocks.now c.args.address (slice_index_or firsts last 0) n) (sym high)
    (narrowed _ _ _ _ last _ c.requires.disjoint c.requires.directory (omega arith) (up.within last 0 (omega arith)) bound behind))
