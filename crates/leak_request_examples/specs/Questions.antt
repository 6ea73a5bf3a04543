-- What command lines of the other subcommands ask for.
use Rattle.std.specs.Prelude.{◌≡◌, ℕ, Bool, false, List, [], ◌∷◌, ◌++◌, map, string_bytes, Option, None, Some}
use Rattle.clap.specs.Words.{Text}
use Rattle.leak_holders.specs.declared.question.Question.{Question}
use Rattle.leak_request.specs.declared.options.GrowRequest.{GrowRequest}
use Rattle.leak_request.specs.declared.options.HoldersRequest.{HoldersRequest}
use Rattle.leak_request.specs.declared.options.Request.{Request}
use Rattle.leak_request.specs.declared.options.Request.TheVariants.{Search, Why, Holders, Grow, Text as Shown}
use Rattle.leak_request.specs.declared.options.WhyRequest.{WhyRequest}
use Rattle.leak_request_examples.specs.Requests.{ArePlanned, AreReadAs, AreSigned, Planned, Reads, Signed}

-- what holds the block of an address
pub record IsWhyFor (paths : List Text) (address : ℕ) (w : Reads) (s : Signed) (r : WhyRequest) : Type 0 where
  pub two_is : r.options.two ≡ false
  pub paths_are : map string_bytes r.paths.items ≡ paths
  pub address_is : r.address ≡ address
  pub reading : AreReadAs w r.options
  pub signs : AreSigned s r.options

abbrev pub IsWhyAsked : List Text → ℕ → Reads → Signed → Request → Type 0
IsWhyAsked paths address w s (Search r) = ⊥
IsWhyAsked paths address w s (Why r) = IsWhyFor paths address w s r
IsWhyAsked paths address w s (Holders r) = ⊥
IsWhyAsked paths address w s (Grow r) = ⊥
IsWhyAsked paths address w s (Shown text) = ⊥

-- the path of the earlier log comes last, if there is one
abbrev pub with_earlier : List Text → Option Text → List Text
with_earlier paths None = paths
with_earlier paths (Some path) = paths ++ path ∷ []

-- who holds the memory, with an earlier log or none, and a question or none
pub record IsHoldersFor (paths : List Text) (since : Option Text) (question : Option Question) (n : Planned) (w : Reads) (s : Signed) (r : HoldersRequest) : Type 0 where
  pub two_is : r.options.two ≡ false
  pub paths_are : map string_bytes r.paths.items ≡ with_earlier paths since
  pub question_is : r.question ≡ question
  pub plan : ArePlanned n r.options
  pub reading : AreReadAs w r.options
  pub signs : AreSigned s r.options

abbrev pub IsHoldersAsked : List Text → Option Text → Option Question → Planned → Reads → Signed → Request → Type 0
IsHoldersAsked paths since question n w s (Search r) = ⊥
IsHoldersAsked paths since question n w s (Why r) = ⊥
IsHoldersAsked paths since question n w s (Holders r) = IsHoldersFor paths since question n w s r
IsHoldersAsked paths since question n w s (Grow r) = ⊥
IsHoldersAsked paths since question n w s (Shown text) = ⊥

-- what grew
pub record IsGrowFor (paths : List Text) (strict : Bool) (r : GrowRequest) : Type 0 where
  pub paths_are : map string_bytes r.paths.items ≡ paths
  pub strict_is : r.options.strict ≡ strict
  pub log_limit : r.options.log_limit ≡ 4294967296

abbrev pub IsGrowAsked : List Text → Bool → Request → Type 0
IsGrowAsked paths strict (Search r) = ⊥
IsGrowAsked paths strict (Why r) = ⊥
IsGrowAsked paths strict (Holders r) = ⊥
IsGrowAsked paths strict (Grow r) = IsGrowFor paths strict r
IsGrowAsked paths strict (Shown text) = ⊥
