-- What a request asks for: a task for its files, or a text.
use Rattle.std.specs.Prelude.{◌≡◌, ℕ, List, [], length, map, Option, None, Some, string_bytes}
use Rattle.leak_find.specs.Tasks.{TakesInputs}
use Rattle.leak_find.specs.declared.task.Task.{Task}
use Rattle.leak_find.specs.declared.task.Task.TheVariants as task
use Rattle.leak_request.specs.Requests.{HasFiles}
use Rattle.leak_request.specs.declared.options.Request.{Request}
use Rattle.leak_request.specs.declared.options.Request.TheVariants.{Search, Why, Holders, Grow, Text}
use Rattle.leak_program.specs.declared.answering.Asked.{Asked}
use Rattle.leak_program.specs.declared.answering.Asked.TheVariants as asked

-- the paths of the files of a request
abbrev pub paths_in : Request → List (List ℕ)
paths_in (Search r) = map string_bytes r.paths.items
paths_in (Why r) = map string_bytes r.paths.items
paths_in (Holders r) = map string_bytes r.paths.items
paths_in (Grow r) = map string_bytes r.paths.items
paths_in (Text text) = []

-- what it asks of them
abbrev pub task_in : Request → Option Task
task_in (Search r) = Some (task.Search r.options)
task_in (Why r) = Some (task.Why r.options r.address)
task_in (Holders r) = Some (task.Holders r.options r.question)
task_in (Grow r) = Some (task.Grow r.options)
task_in (Text text) = None

-- the text that it asks for
abbrev pub text_in : Request → List ℕ
text_in (Search r) = []
text_in (Why r) = []
text_in (Holders r) = []
text_in (Grow r) = []
text_in (Text text) = string_bytes text

-- files are to be read for this task, as many as it takes
pub record AsksFiles (r : Request) (paths : List (List ℕ)) (t : Task) : Type 0 where
  pub paths_are : paths ≡ paths_in r
  pub task_is : task_in r ≡ Some t
  pub as_many : HasFiles r → TakesInputs t (length paths)

-- a text is to be shown
pub record AsksText (r : Request) (text : List ℕ) : Type 0 where
  pub none : task_in r ≡ None
  pub no_path : paths_in r ≡ []
  pub text_is : text ≡ text_in r

abbrev pub AsksFor : Request → Asked → Type 0
AsksFor r (asked.Files paths t) = AsksFiles r (map string_bytes paths.now) t
AsksFor r (asked.Text text) = AsksText r text.now
