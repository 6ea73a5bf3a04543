-- Worked command lines of a search: the defaults, each option alone, and many together.
use Rattle.std.specs.Prelude.{true, false, [], ◌∷◌, codes, Some}
use Rattle.leak_request_examples.specs.Requests.{AskFor, IsSearch, IsShown, by_default, one_input, plainly, two_inputs, unsigned, with_all}

pub record AreWorkedSearchLines : Type 0 where
  pub one : AskFor (codes "one" ∷ codes "core.1" ∷ codes "trace.log" ∷ []) (IsSearch false one_input by_default plainly unsigned)
  pub two : AskFor (codes "two" ∷ codes "a" ∷ codes "b" ∷ codes "c" ∷ codes "d" ∷ []) (IsSearch true two_inputs by_default plainly unsigned)
  pub numbers : AskFor (codes "two" ∷ codes "a" ∷ codes "b" ∷ codes "c" ∷ codes "d" ∷ codes "--piece" ∷ codes "1" ∷ codes "--stack" ∷ codes "0" ∷ [])
      (IsSearch true two_inputs (record { workers = 4; piece = 1; stack = 0 }) plainly unsigned)
  pub largest : AskFor (codes "one" ∷ codes "core.1" ∷ codes "trace.log" ∷ codes "--workers=64" ∷ codes "--piece=65536" ∷ codes "--stack=65536" ∷ [])
      (IsSearch false one_input (record { workers = 64; piece = 65536; stack = 65536 }) plainly unsigned)
  pub displaced : AskFor (codes "one" ∷ codes "core.1" ∷ codes "trace.log" ∷ codes "--workers" ∷ codes "2" ∷ codes "--displace" ∷ codes "8,16" ∷ [])
      (IsSearch false one_input (record { workers = 2; piece = 512; stack = 1024 }) (record plainly { listed = Some (8 ∷ 16 ∷ []) }) unsigned)
  pub options_before_paths : AskFor (codes "one" ∷ codes "--workers" ∷ codes "1" ∷ codes "core.1" ∷ codes "--displace=0" ∷ codes "trace.log" ∷ [])
      (IsSearch false one_input (record { workers = 1; piece = 512; stack = 1024 }) (record plainly { listed = Some (0 ∷ []) }) unsigned)
  pub ends : AskFor (codes "one" ∷ codes "core.1" ∷ codes "trace.log" ∷ codes "--skip-ends" ∷ []) (IsSearch false one_input by_default (record plainly { ends = true }) unsigned)
  pub freed : AskFor (codes "one" ∷ codes "core.1" ∷ codes "trace.log" ∷ codes "--skip-freed" ∷ []) (IsSearch false one_input by_default (record plainly { freed = true }) unsigned)
  pub links : AskFor (codes "one" ∷ codes "core.1" ∷ codes "trace.log" ∷ codes "--skip-links" ∷ []) (IsSearch false one_input by_default (record plainly { links = true }) unsigned)
  pub slack : AskFor (codes "one" ∷ codes "core.1" ∷ codes "trace.log" ∷ codes "--skip-slack" ∷ []) (IsSearch false one_input by_default (record plainly { slack = true }) unsigned)
  pub dead : AskFor (codes "one" ∷ codes "core.1" ∷ codes "trace.log" ∷ codes "--skip-dead-stack" ∷ []) (IsSearch false one_input by_default (record plainly { dead = true }) unsigned)
  pub all_memory : AskFor (codes "one" ∷ codes "core.1" ∷ codes "trace.log" ∷ codes "--all-memory" ∷ []) (IsSearch false one_input by_default (record plainly { all_memory = true }) unsigned)
  pub check : AskFor (codes "one" ∷ codes "core.1" ∷ codes "trace.log" ∷ codes "--check" ∷ []) (IsSearch false one_input by_default plainly (record unsigned { check = true }))
  pub other_heap : AskFor (codes "one" ∷ codes "core.1" ∷ codes "trace.log" ∷ codes "--other-heap" ∷ []) (IsSearch false one_input by_default plainly (record unsigned { other_heap = true }))
  pub strict : AskFor (codes "one" ∷ codes "core.1" ∷ codes "trace.log" ∷ codes "--strict" ∷ []) (IsSearch false one_input by_default plainly (record unsigned { strict = true }))
  pub all : AskFor (codes "two" ∷ codes "a" ∷ codes "b" ∷ codes "c" ∷ codes "d" ∷ codes "--skip-ends" ∷ codes "--skip-freed" ∷ codes "--skip-links" ∷ codes "--skip-slack" ∷ codes "--skip-dead-stack" ∷ codes "--all-memory" ∷ codes "--check" ∷ codes "--strict" ∷ codes "--displace=24" ∷ [])
      (IsSearch true two_inputs by_default (with_all (24 ∷ [])) (record { check = true; other_heap = false; strict = true }))

-- lines that ask for a text
pub record AreWorkedTexts : Type 0 where
  pub help : AskFor (codes "--help" ∷ []) IsShown
  pub version : AskFor (codes "--version" ∷ []) IsShown
  pub help_of_one : AskFor (codes "one" ∷ codes "--help" ∷ []) IsShown
