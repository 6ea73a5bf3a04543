-- Each refusal is a fault of the core, which both have, or one of the log.
use Rattle.leak_alike.proofs.AlikeRefusals.{refused_answers_are_one, refused_holders_are_one, refused_searches_are_one}
use Rattle.leak_alike.proofs.alike.refusals_of_alike_cores.Goals as goal

pub returns : goal.returns
returns c = record { found = refused_searches_are_one; holders = refused_holders_are_one; chosen = refused_answers_are_one }
