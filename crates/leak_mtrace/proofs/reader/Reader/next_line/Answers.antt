-- One line more, a faulty line, or the end.
use Rattle.std.proofs.Common.{◌≡◌, ℕ, ◌+◌, ◌-◌, List, Some, None, take, drop, arith, subst, ap}
use Rattle.std.proofs.lemmas.List.{take_rest}
use Rattle.std.proofs.lemmas.Result.{err_from_is_err_and}
use Rattle.memchr.specs.Find.{IsFirstByte, is_byte}
use Rattle.leak_mtrace.specs.declared.line.Line.{Line}
use Rattle.leak_mtrace.specs.Log.{IsFaulty}
use Rattle.leak_mtrace.specs.Reading.{HasRead}
use Rattle.leak_mtrace.proofs.LogLemmas.{read_fault}
use Rattle.leak_mtrace.proofs.ReadingLemmas.{next_read, all_read}
use Rattle.leak_mtrace.proofs.reader.Reader.next_line.Goals as goal

pub returns-in_default-clause-next : goal.returns-in_default-clause-next
returns-in_default-clause-next c =
    let bytes : List ℕ = c.self.inside.bytes.now in
    let start : ℕ = c.self.inside.start in
    let end : IsFirstByte (is_byte 10) (drop start bytes) None = subst (λ (t : List ℕ). IsFirstByte (is_byte 10) t None) (take_rest bytes start) c.in_default.ensures in
    rw (← c.self.view_is) (λ lines h. all_read bytes start c.self.inside.count lines h end)

pub returns-in_err-line-clause-refused : goal.returns-in_err-line-clause-refused
returns-in_err-line-clause-refused c =
    let bytes : List ℕ = c.self.inside.bytes.now in
    let start : ℕ = c.self.inside.start in
    let feed : IsFirstByte (is_byte 10) (drop start bytes) (Some c.in-Some.len) = subst (λ (t : List ℕ). IsFirstByte (is_byte 10) t (Some c.in-Some.len)) (take_rest bytes start) c.in-Some.ensures in
    let size : start + c.in-Some.len - start ≡ c.in-Some.len = omega arith in
    let p = err_from_is_err_and c.from_residual.result c.from_residual.ensures.1 in
    rw (p.1, p.2, ← c.self.view_is) (λ (lines : List Line) (h : HasRead (record { bytes = bytes; start = start; count = c.self.inside.count }) lines).
    read_fault bytes _ start c.in-Some.len lines c.in_err-line.field-0.0 h.before feed (ap (λ n. take n (drop start bytes)) size)
    (subst (λ (n : ℕ). IsFaulty c.in_err-line.field-0.0 (n + 1) (start, take (start + c.in-Some.len - start) (drop start bytes))) h.counted c.in_err-line.ensures.refused))

pub returns-clause-next : goal.returns-clause-next
returns-clause-next c =
    let bytes : List ℕ = c.self.inside.bytes.now in
    let start : ℕ = c.self.inside.start in
    let feed : IsFirstByte (is_byte 10) (drop start bytes) (Some c.in-Some.len) = subst (λ (t : List ℕ). IsFirstByte (is_byte 10) t (Some c.in-Some.len)) (take_rest bytes start) c.in-Some.ensures in
    let size : start + c.in-Some.len - start ≡ c.in-Some.len = omega arith in
    rw (← c.self.view_is) (λ lines h. next_read bytes _ start c.self.inside.count c.in-Some.len lines c.in_ok-line.line h feed (ap (λ n. take n (drop start bytes)) size) c.in_ok-line.ensures.ok)
