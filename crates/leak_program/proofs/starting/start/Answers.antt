-- From what the calls promise.
use Rattle.std.proofs.Common.{inl, inr, map, refl, rules, string_bytes}
use Rattle.leak_program.proofs.starting.start.Goals as goal

pub returns-in-Ok : goal.returns-in-Ok
returns-in-Ok g c = inl (map string_bytes c.as_slice.result.now, rw c.from.ensures c.answer_all.ensures)

pub returns-in-Err : goal.returns-in-Err
returns-in-Err g c = inr (
  refl,
  record {
    failure = c.in-Err.failure;
    unread = search rules;
    silent = refl;
    said = c.refuse.ensures.told;
    status_is = rw c.from-in-Err.ensures c.refuse.ensures.status;
  },
)
