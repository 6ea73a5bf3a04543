-- From the lemmas.
use Rattle.leak_laws.proofs.PartReports.{by_texts_have_lines, in_texts_have_lines, parts_are_ordered}
use Rattle.leak_laws.proofs.held.parts_have_lines.Goals as goal

pub returns : goal.returns
returns c = record { ordered = parts_are_ordered; in_lines = in_texts_have_lines; by_lines = by_texts_have_lines }
