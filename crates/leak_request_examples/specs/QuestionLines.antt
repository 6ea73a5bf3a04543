-- Worked command lines of the other subcommands, and refused ones.
use Rattle.std.specs.Prelude.{ℕ, Bool, true, false, List, [], ◌∷◌, codes, Option, Some, None}
use Rattle.clap.specs.Words.{Text}
use Rattle.leak_holders.specs.declared.question.Question.{Question}
use Rattle.leak_holders.specs.declared.question.Side.{Side}
use Rattle.leak_holders.specs.declared.question.Side.TheVariants.{In, Of}
use Rattle.leak_index.specs.declared.error.ReadingError.TheVariants.{TooLarge, TooMany}
use Rattle.leak_request.specs.declared.fault.DisplaceFault.TheVariants.{Number, Reading}
use Rattle.leak_request.specs.declared.fault.AddressArgument.TheVariants as argument
use Rattle.leak_request.specs.declared.fault.UsageFault.TheVariants.{Address, Block, Check, Displace, Sides}
use Rattle.leak_request_examples.specs.Requests.{AskFor, AreRefused, AreRefusedByClap, by_default, one_input, plainly, unsigned, with_all}
use Rattle.leak_request_examples.specs.Questions.{IsGrowAsked, IsHoldersAsked, IsWhyAsked}

-- words after a subcommand with a core and a log
abbrev pub after_input : List ℕ → List Text → List Text
after_input name words = name ∷ codes "core.1" ∷ codes "trace.log" ∷ words

abbrev pub why : List Text → List Text
why words = after_input (codes "why") words

pub record AreWorkedWhyLines : Type 0 where
  pub address : AskFor (why (codes "0x10100" ∷ [])) (IsWhyAsked one_input 0x10100 plainly unsigned)
  pub both_cases : AskFor (why (codes "0xaBcDeF0123456789" ∷ [])) (IsWhyAsked one_input 0xabcdef0123456789 plainly unsigned)
  pub one_digit : AskFor (why (codes "0x0" ∷ [])) (IsWhyAsked one_input 0 plainly unsigned)
  pub all : AskFor (why (codes "0x10100" ∷ codes "--skip-ends" ∷ codes "--skip-freed" ∷ codes "--skip-links" ∷ codes "--skip-slack" ∷ codes "--skip-dead-stack" ∷ codes "--all-memory" ∷ codes "--displace=8,16" ∷ []))
      (IsWhyAsked one_input 0x10100 (with_all (8 ∷ 16 ∷ [])) unsigned)
  pub decimal_address : AreRefused (why (codes "10100" ∷ [])) (Address argument.Operand)
  pub no_digit : AreRefused (why (codes "0x" ∷ [])) (Address argument.Operand)
  pub seventeen_digits : AreRefused (why (codes "0x00000000000010100" ∷ [])) (Address argument.Operand)
  pub another_letter : AreRefused (why (codes "0x1g" ∷ [])) (Address argument.Operand)
  pub upper_prefix : AreRefused (why (codes "0X10100" ∷ [])) (Address argument.Operand)
  pub list_first : AreRefused (why (codes "10100" ∷ codes "--displace" ∷ codes "8,,16" ∷ [])) (Displace (Number 1))
  pub no_address : AreRefusedByClap (why [])
  pub no_workers : AreRefusedByClap (why (codes "0x10100" ∷ codes "--workers" ∷ codes "2" ∷ []))
  pub strict : AskFor (why (codes "0x10100" ∷ codes "--strict" ∷ [])) (IsWhyAsked one_input 0x10100 plainly (record unsigned { strict = true }))
  pub other_heap : AskFor (why (codes "--other-heap" ∷ codes "0x10100" ∷ [])) (IsWhyAsked one_input 0x10100 plainly (record unsigned { other_heap = true }))
  pub no_check : AreRefusedByClap (why (codes "0x10100" ∷ codes "--check" ∷ []))

abbrev pub one : List Text → List Text
one words = after_input (codes "one") words

pub record AreWorkedRefusals : Type 0 where
  pub empty_item : AreRefused (one (codes "--displace" ∷ codes "8,,16" ∷ [])) (Displace (Number 1))
  pub no_item : AreRefused (one (codes "--displace=" ∷ [])) (Displace (Number 0))
  pub hexadecimal_item : AreRefused (one (codes "--displace" ∷ codes "0x8" ∷ [])) (Displace (Number 0))
  pub large_item : AreRefused (one (codes "--displace" ∷ codes "65536" ∷ [])) (Displace (Reading (TooLarge 0)))
  pub large_second : AreRefused (one (codes "--displace" ∷ codes "65535,65536" ∷ [])) (Displace (Reading (TooLarge 1)))
  pub seventeen_items : AreRefused (one (codes "--displace" ∷ codes "1,2,3,4,5,6,7,8,9,10,11,12,13,14,15,16,17" ∷ [])) (Displace (Reading TooMany))
  pub too_large_for_a_word : AreRefused (one (codes "--displace" ∷ codes "8,18446744073709551616" ∷ [])) (Displace (Number 1))
  pub check_of_other_heap : AreRefused (one (codes "--check" ∷ codes "--other-heap" ∷ [])) Check
  pub list_before_check : AreRefused (one (codes "--check" ∷ codes "--other-heap" ∷ codes "--displace" ∷ codes "x" ∷ [])) (Displace (Number 0))
  pub no_log : AreRefusedByClap (codes "one" ∷ codes "core.1" ∷ [])
  pub path_too_many : AreRefusedByClap (one (codes "more" ∷ []))
  pub no_subcommand : AreRefusedByClap []
  pub other_subcommand : AreRefusedByClap (codes "three" ∷ codes "a" ∷ codes "b" ∷ [])
  pub no_worker : AreRefusedByClap (one (codes "--workers" ∷ codes "0" ∷ []))
  pub many_workers : AreRefusedByClap (one (codes "--workers" ∷ codes "65" ∷ []))
  pub hexadecimal_workers : AreRefusedByClap (one (codes "--workers" ∷ codes "0x2" ∷ []))
  pub no_piece : AreRefusedByClap (one (codes "--piece" ∷ codes "0" ∷ []))
  pub large_piece : AreRefusedByClap (one (codes "--piece" ∷ codes "65537" ∷ []))
  pub large_stack : AreRefusedByClap (one (codes "--stack" ∷ codes "65537" ∷ []))
  pub option_twice : AreRefusedByClap (one (codes "--strict" ∷ codes "--strict" ∷ []))
  pub unknown_option : AreRefusedByClap (one (codes "--skip" ∷ []))
  pub three_paths_of_two : AreRefusedByClap (codes "two" ∷ codes "a" ∷ codes "b" ∷ codes "c" ∷ [])

abbrev pub holders : List Text → List Text
holders words = after_input (codes "holders") words

abbrev pub question : Side → ℕ → Bool → Option Question
question side address alone = Some (record { address = address; side = side; alone = alone })

pub record AreWorkedHoldersLines : Type 0 where
  pub plain : AskFor (holders []) (IsHoldersAsked one_input None None by_default plainly unsigned)
  pub since : AskFor (holders (codes "--since" ∷ codes "old.log" ∷ [])) (IsHoldersAsked one_input (Some (codes "old.log")) None by_default plainly unsigned)
  pub held : AskFor (holders (codes "--in" ∷ codes "0x10200" ∷ [])) (IsHoldersAsked one_input None (question In 0x10200 false) by_default plainly unsigned)
  pub held_by_one : AskFor (holders (codes "--in" ∷ codes "0x10200" ∷ codes "--block" ∷ [])) (IsHoldersAsked one_input None (question In 0x10200 true) by_default plainly unsigned)
  pub holding : AskFor (holders (codes "--of" ∷ codes "0x10510" ∷ [])) (IsHoldersAsked one_input None (question Of 0x10510 false) by_default plainly unsigned)
  pub all : AskFor (holders (codes "--of=0x10510" ∷ codes "--block" ∷ codes "--since=old.log" ∷ codes "--workers=8" ∷ codes "--piece=2" ∷ codes "--stack=3" ∷ codes "--skip-ends" ∷ codes "--skip-freed" ∷ codes "--skip-links" ∷ codes "--skip-slack"
      ∷ codes "--skip-dead-stack" ∷ codes "--all-memory" ∷ codes "--displace=8" ∷ codes "--other-heap" ∷ codes "--strict" ∷ []))
      (IsHoldersAsked one_input (Some (codes "old.log")) (question Of 0x10510 true) (record { workers = 8; piece = 2; stack = 3 }) (with_all (8 ∷ [])) (record { check = false; other_heap = true; strict = true }))
  pub both_sides : AreRefused (holders (codes "--in" ∷ codes "0x10200" ∷ codes "--of" ∷ codes "0x10510" ∷ [])) Sides
  pub block_alone : AreRefused (holders (codes "--block" ∷ [])) Block
  pub bad_address : AreRefused (holders (codes "--in" ∷ codes "10200" ∷ [])) (Address argument.In)
  pub list_first : AreRefused (holders (codes "--block" ∷ codes "--displace" ∷ codes "x" ∷ [])) (Displace (Number 0))
  pub no_check : AreRefusedByClap (holders (codes "--check" ∷ []))

pub record AreWorkedGrowLines : Type 0 where
  pub plain : AskFor (codes "grow" ∷ codes "a" ∷ codes "b" ∷ []) (IsGrowAsked (codes "a" ∷ codes "b" ∷ []) false)
  pub strict : AskFor (codes "grow" ∷ codes "a" ∷ codes "--strict" ∷ codes "b" ∷ []) (IsGrowAsked (codes "a" ∷ codes "b" ∷ []) true)
  pub one_log : AreRefusedByClap (codes "grow" ∷ codes "a" ∷ [])
  pub no_workers : AreRefusedByClap (codes "grow" ∷ codes "a" ∷ codes "b" ∷ codes "--workers" ∷ codes "2" ∷ [])
