-- By the first two bytes.
use Rattle.std.proofs.Common.{◌≡◌, ◌≢◌, length, get_or, arith, eqb-true, sym, ◌∙◌, true≢false, eq-eqb, ltb-true}
use Rattle.leak_mtrace.proofs.BodyLemmas.{two_and_rest}
use Rattle.leak_mtrace.proofs.LineLemmas.{line_behind, line_plain, line_remark, empty_line, equals_line}
use Rattle.leak_mtrace.proofs.parsing.parse_line.Goals as goal
use Rattle.leak_mtrace.proofs.parsing.parse_line.Goals.{then-is_empty-via-then-is_empty, then-is_empty-via-else-is_empty+then-line-eq61, in_default-via-then-line-lt2, in_default-via-else-line-lt2+in-64+in_default-1, in_default-via-else-line-lt2+in_default-1}

pub returns-then-is_empty : goal.returns-then-is_empty
returns-then-is_empty c = elim c.then-is_empty.branch [
  | then-is_empty-via-then-is_empty w ↦ let e : length c.args.line.now ≡ 0 = eqb-true _ _ (sym c.is_empty.ensures ∙ w.if-is_empty.true) in line_remark c.args.line.now _ (empty_line c.args.line.now (omega arith))
  | then-is_empty-via-else-is_empty+then-line-eq61 w ↦ let ne : length c.args.line.now ≢ 0 = (λ e. true≢false (sym (eq-eqb _ _ e) ∙ sym c.is_empty.ensures ∙ w.if-is_empty.false)) in line_remark c.args.line.now _ (equals_line c.args.line.now (omega arith) (omega arith))
]

pub returns-in-64 : goal.returns-in-64
returns-in-64 c = line_behind c.args.line.now _ c.placed.result (two_and_rest c.args.line.now 64 32 c.in-64.len_at_least (omega arith) (omega arith)) c.placed.ensures

pub returns-in_default : goal.returns-in_default
returns-in_default c =
    let ne : length c.args.line.now ≢ 0 = (λ e. true≢false (sym (eq-eqb _ _ e) ∙ sym c.is_empty.ensures ∙ c.if-is_empty.false)) in
    let other : get_or c.args.line.now 0 0 ≢ 61 = c.if-line-eq61.false in
    elim c.in_default.branch [
      | in_default-via-then-line-lt2 w ↦ line_plain c.args.line.now c.plain.result (omega arith) other (λ l e f. absurd (omega (arith, ltb-true))) c.plain.ensures
      | in_default-via-else-line-lt2+in-64+in_default-1 w ↦ line_plain c.args.line.now c.plain.result (omega arith) other (λ l e f. absurd (omega arith)) c.plain.ensures
      | in_default-via-else-line-lt2+in_default-1 w ↦ line_plain c.args.line.now c.plain.result (omega arith) other (λ l e f. absurd (omega arith)) c.plain.ensures
    ]
