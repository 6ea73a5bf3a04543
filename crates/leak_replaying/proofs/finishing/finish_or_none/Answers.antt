-- Want of memory is no fault of the log.
use Rattle.std.proofs.Common.{◌++◌, refl}
use Rattle.leak_replaying.proofs.finishing.finish_or_none.Goals as goal

pub returns-in-Err : goal.returns-in-Err
returns-in-Err c = λ passed lines has after end.
    c.unread.ensures c.args.log.spans (passed ++ c.args.log.window.items) (λ other. absurd (other refl))
