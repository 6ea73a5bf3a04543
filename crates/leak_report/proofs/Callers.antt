-- A live block's caller is that of its line.
use Rattle.std.proofs.Common.{◌-◌, ℕ, List, sym, ap, subst}
use Rattle.leak_mtrace.specs.declared.line.Line.{Line}
use Rattle.leak_mtrace.specs.Log.{IsCallerIn, CallersAreIn}
use Rattle.leak_blocks.specs.declared.block.Block.{Block}
use Rattle.leak_blocks.specs.Laws.{IsOfLine, LiveAreOfLines}
use Rattle.leak_blocks.specs.Live.{live_of}
use Rattle.leak_report.specs.Totals.{IsIn, HaveCallersIn}
use Rattle.leak_lemmas.proofs.Members.{each_implied, each_at}

pub have_callers : LiveAreOfLines → (bytes : List ℕ) (lines : List Line) → CallersAreIn bytes lines → HaveCallersIn bytes (live_of lines)
have_callers of bytes lines all =
    each_implied (IsOfLine lines) (λ b. IsIn bytes b.caller)
    (λ b is. let own : IsCallerIn bytes is.line = each_at (IsCallerIn bytes) lines (b.line - 1) is.line all is.at in
    subst (IsIn bytes) (sym (ap (λ (x : Block). x.caller) is.same)) (record { order = own.order; within = own.within }))
    (live_of lines) (of lines)
