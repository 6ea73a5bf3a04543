-- Each row is computed.
use Rattle.std.proofs.Common.{refl}
use Rattle.leak_blocks.specs.Small.{is_covered}
use Rattle.leak_chunks.specs.Fit.{fits_core}
use Rattle.leak_chunks.specs.Slack.{slack_by, slack_of, slack_spans_of}
use Rattle.leak_chunks.proofs.laws.worked_slack.Goals as goal

pub returns-clause-spans : goal.returns-clause-spans
unfolding fits_core slack_by slack_of
returns-clause-spans c = record { four_bytes = refl; two_words = refl; all_asked_for = refl; empty = refl; thirty_two_more = refl; mapping = refl; least_mapping = refl; other_arena = refl; given_back = refl; larger_chunk = refl; zeros = refl; no_size_word = refl; not_of_16 = refl; last_chunk = refl; beyond_the_last_address = refl }

pub returns-clause-words : goal.returns-clause-words
unfolding is_covered fits_core slack_by slack_of slack_spans_of
returns-clause-words c = record { block_word = refl; first_word = refl; last_word = refl; size_word_of_the_next = refl; size_word_before = refl; half_asked_for = refl; one_byte_asked_for = refl; behind_it = refl }
