-- Steps of marking make a run.
use Rattle.std.proofs.Common.{◌≡◌, ◌⊎◌, ◌↔◌, ℕ, ◌+◌, ◌<◌, ◌≤◌, Bool, false, ◌||◌, refl, sym, subst, ap, ◌∙◌, inl, inr, ⊎_elim, List, [], ◌∷◌, ◌++◌, length, replicate, get_or, set, Option, Some, None, if◌then◌else◌, arith, append_assoc, length-set}
use Rattle.std.specs.List.{concat, AllByRecursion}
use Rattle.std.proofs.lemmas.List.{append-nil, set-get_or, set-set, get_or-set_same, length-replicate}
use Rattle.leak_marks.specs.Lists.{times, Has, has, IsDistinct, Within}
use Rattle.leak_marks.specs.Reach.{Graph, targets_of}
use Rattle.leak_marks.specs.Runs.{Attempt, IsWholeRun, IsLawfulAfter, IsLedTo, after, claims_after, targets_in}
use Rattle.leak_marks.specs.Claims.{attempted}
use Rattle.leak_marks.specs.Rounds.{AreLed, IsKept, IsKeptInRounds, appended_from, IsRunTo, IsUnderWay, IsNext, Step, claims_of, waiting_of, seen_of, AreKept}
use Rattle.leak_marks.proofs.ListLemmas.{times-append, times_set, to_has, of_has, has_no, here, there, at_head, either}
use Rattle.leak_marks.proofs.RunLemmas.{is_claimed, claimed_after_run, in_range_of, length_after, nothing_held, nothing_claimed}

-- ---- lists that grow

pub times_appended : (b k : ℕ) (lists gained : List (List ℕ)) → k + length gained ≤ length lists → times b (concat (appended_from k lists gained)) ≡ times b (concat lists) + times b (concat gained)
times_appended b k lists [] h = omega arith
times_appended b k lists (g ∷ gs) h =
    let long = length-set lists k (get_or lists k [] ++ g) in
    let p = times_appended b (k + 1) (set lists k (get_or lists k [] ++ g)) gs (omega arith) in
    let q = times_set b lists k g (omega arith) in
    let r = times-append b g (concat gs) in omega arith

pub length_appended : (k : ℕ) (lists gained : List (List ℕ)) → length (appended_from k lists gained) ≡ length lists
length_appended k lists [] = refl
length_appended k lists (g ∷ gs) = length_appended (k + 1) (set lists k (get_or lists k [] ++ g)) gs ∙ length-set lists k (get_or lists k [] ++ g)

-- ---- runs, one after the other

after-append : (lists : List (List ℕ)) (r q : List Attempt) → after lists (r ++ q) ≡ after (after lists r) q
after-append lists [] q = refl
after-append lists (a ∷ r) q = after-append (attempted lists a.worker a.target) r q

all-append : (P : Attempt → Type 0) (r q : List Attempt) → AllByRecursion P r → AllByRecursion P q → AllByRecursion P (r ++ q)
all-append P [] q a b = b
all-append P (x ∷ r) q a b = (a.0, all-append P r q a.1 b)

all_weaker : (P Q : Attempt → Type 0) → ((a : Attempt) → P a → Q a) → (r : List Attempt) → AllByRecursion P r → AllByRecursion Q r
all_weaker P Q f [] a = tt
all_weaker P Q f (x ∷ r) a = (f x a.0, all_weaker P Q f r a.1)

-- the numbers in front, the last of them first
abbrev pub onto : List ℕ → List ℕ → List ℕ
onto [] e = e
onto (t ∷ ts) e = onto ts (t ∷ e)

onto_keeps : (ts e : List ℕ) (s : ℕ) → Has e s → Has (onto ts e) s
onto_keeps [] e s h = h
onto_keeps (t ∷ ts) e s h = onto_keeps ts (t ∷ e) s (there t e s h)

onto_has : (ts e : List ℕ) (s : ℕ) → Has ts s → Has (onto ts e) s
onto_has [] e s h = absurd (omega arith)
onto_has (t ∷ ts) e s h = ⊎_elim (λ is. onto_keeps ts (t ∷ e) s (subst (λ (y : ℕ). Has (t ∷ e) y) is (here t e))) (λ r. onto_has ts (t ∷ e) s r) (at_head t ts s h)

lawful-append : (g : Graph) (e : List ℕ) (r q : List Attempt) → IsLawfulAfter g e r → IsLawfulAfter g (onto (targets_in r) e) q → IsLawfulAfter g e (r ++ q)
lawful-append g e [] q a b = b
lawful-append g e (x ∷ r) q a b = (a.0, a.1, lawful-append g (x.target ∷ e) r q a.2 b)

-- ---- the run of one worker's list

pub record IsLine (g : Graph) (e : List ℕ) (k : ℕ) (claims : List ℕ) (run : List Attempt) : Type 0 where
  pub targets : targets_in run ≡ claims
  pub worker : AllByRecursion (λ a. a.worker ≡ k) run
  pub lawful : IsLawfulAfter g e run

abbrev pub attempt : ℕ → Option ℕ → ℕ → Attempt
attempt k s b = record { worker = k; source = s; target = b }

abbrev IsLed : Graph → List ℕ → ℕ → Type 0
IsLed g e b = Has g.first b ⊎ ((s : ℕ) × Has e s × Has (targets_of g s) b)

source : (g : Graph) (e : List ℕ) (b : ℕ) → IsLed g e b → (s : Option ℕ) × IsLedTo g e s b
source g e b h = ⊎_elim (λ f. (None, f)) (λ s. (Some s.0, (s.1, s.2))) h

line_of : (g : Graph) (k : ℕ) (targets : ℕ → List ℕ) (item : ℕ → Type 0) (earlier e claims : List ℕ) → ((s : ℕ) → targets s ≡ targets_of g s)
    → AreLed targets item earlier claims → ((s : ℕ) → Has earlier s → Has e s) → ((b : ℕ) → item b → IsLed g e b) → ((b : ℕ) → Has claims b → Has g.given b → ⊥)
    → (run : List Attempt) × IsLine g e k claims run
line_of g k targets item earlier e [] same led among items out = ([], record { targets = refl; worker = tt; lawful = tt })
line_of g k targets item earlier e (b ∷ claims) same led among items out =
    let from : IsLed g e b = ⊎_elim (λ i. items b i) (λ s. inr (s.0, among s.0 s.1, subst (λ (l : List ℕ). Has l b) (same s.0) s.2)) led.0 in
    let s : (s : Option ℕ) × IsLedTo g e s b = source g e b from in
    let more : (run : List Attempt) × IsLine g (b ∷ e) k claims run =
    line_of g k targets item (b ∷ earlier) (b ∷ e) claims same led.1
    (λ x h. ⊎_elim (λ is. subst (λ (y : ℕ). Has (b ∷ e) y) is (here b e)) (λ r. there b e x (among x r)) (at_head b earlier x h))
    (λ x i. ⊎_elim (λ f. inl f) (λ r. inr (r.0, there b e r.0 r.1, r.2)) (items x i))
    (λ x h. out x (there b claims x h)) in (
      attempt k s.0 b ∷ more.0,
      record {
        targets = ap (λ (l : List ℕ). b ∷ l) more.1.targets;
        worker = (refl, more.1.worker);
        lawful = (out b (here b claims), s.1, more.1.lawful);
      },
    )

-- if no target of the run is claimed and none is in it twice, they all go to the worker's list
after_line : (lists : List (List ℕ)) (k : ℕ) (run : List Attempt) → AllByRecursion (λ a. a.worker ≡ k) run → k < length lists
    → ((b : ℕ) → Has (targets_in run) b → Has (concat lists) b → ⊥) → IsDistinct (targets_in run) → after lists run ≡ set lists k (get_or lists k [] ++ targets_in run)
after_line lists k [] w inside new once = sym (ap (λ (l : List ℕ). set lists k l) (append-nil (get_or lists k [])) ∙ set-get_or lists k [])
after_line lists k (a ∷ run) w inside new once =
    let x : ℕ = a.target in let ts : List ℕ = targets_in run in
    let free : is_claimed lists x ≡ false = has_no (concat lists) x (new x (here x ts)) in
    let step : attempted lists a.worker x ≡ set lists k (get_or lists k [] ++ x ∷ []) =
    ap (λ (t : Bool). if t then lists else set lists a.worker (get_or lists a.worker [] ++ x ∷ [])) free ∙ ap (λ (n : ℕ). set lists n (get_or lists n [] ++ x ∷ [])) w.0 in
    let one : List (List ℕ) = set lists k (get_or lists k [] ++ x ∷ []) in
    let long : length one ≡ length lists = length-set lists k (get_or lists k [] ++ x ∷ []) in
    let fresh : (b : ℕ) → Has ts b → Has (concat one) b → ⊥ = λ b h c.
    (let t : times b (concat one) ≡ times b (concat lists) + times b (x ∷ []) = times_set b lists k (x ∷ []) inside in
    let p : times b (x ∷ ts) ≡ times b (x ∷ []) + times b ts = times-append b (x ∷ []) ts in
    let q : times b (x ∷ ts) ≤ 1 = once b in
    let z : 0 < times b (concat lists) = omega arith in
    new b (there x ts b h) z) in
    let rest : after one run ≡ set one k (get_or one k [] ++ ts) = after_line one k run w.1 (omega arith) fresh (λ b. let p : times b (x ∷ ts) ≡ times b (x ∷ []) + times b ts = times-append b (x ∷ []) ts in let q : times b (x ∷ ts) ≤ 1 = once b in omega arith) in
    ap (λ (l : List (List ℕ)). after l run) step ∙ rest
    ∙ ap (λ (l : List ℕ). set one k (l ++ ts)) (get_or-set_same lists k (get_or lists k [] ++ x ∷ []) [] inside)
    ∙ set-set lists k (get_or lists k [] ++ x ∷ []) ((get_or lists k [] ++ x ∷ []) ++ ts)
    ∙ ap (λ (l : List ℕ). set lists k l) (append_assoc (get_or lists k []) (x ∷ []) ts)

-- ---- the run of one step

pub record IsBlock (g : Graph) (workers : ℕ) (e : List ℕ) (lists later : List (List ℕ)) (run : List Attempt) : Type 0 where
  pub in_range : AllByRecursion (λ a. a.worker < workers) run
  pub lawful : IsLawfulAfter g e run
  pub gives : after lists run ≡ later

-- a run of a block after the run of a list
block_behind : (g : Graph) (workers : ℕ) (e : List ℕ) (lists one later : List (List ℕ)) (r q : List Attempt) → AllByRecursion (λ a. a.worker < workers) r → IsLawfulAfter g e r
    → after lists r ≡ one → IsBlock g workers (onto (targets_in r) e) one later q → IsBlock g workers e lists later (r ++ q)
block_behind g workers e lists one later r q within lawful gives block = record {
  in_range = all-append (λ a. a.worker < workers) r q within block.in_range;
  lawful = lawful-append g e r q lawful block.lawful;
  gives = after-append lists r q ∙ ap (λ (l : List (List ℕ)). after l q) gives ∙ block.gives;
}

step_run : (g : Graph) (workers k : ℕ) (targets : ℕ → List ℕ) (item : ℕ → Type 0) (e : List ℕ) (lists gained : List (List ℕ)) → ((s : ℕ) → targets s ≡ targets_of g s)
    → k + length gained ≤ workers → length lists ≡ workers → AllByRecursion (AreLed targets item []) gained → ((b : ℕ) → item b → IsLed g e b)
    → ((b : ℕ) → Has (concat gained) b → Has g.given b → ⊥) → IsDistinct (concat (appended_from k lists gained)) → (run : List Attempt) × IsBlock g workers e lists (appended_from k lists gained) run
step_run g workers k targets item e lists [] same few long led items out once = ([], record { in_range = tt; lawful = tt; gives = refl })
step_run g workers k targets item e lists (c ∷ cs) same few long led items out once =
    let line : (run : List Attempt) × IsLine g e k c run = line_of g k targets item [] e c same led.0 (λ s h. absurd (let z : 0 < 0 = h in omega arith)) items (λ b h. out b (let p : times b (c ++ concat cs) ≡ times b c + times b (concat cs) = times-append b c (concat cs) in omega arith)) in
    let one : List (List ℕ) = set lists k (get_or lists k [] ++ c) in
    let same_long : length one ≡ length lists = length-set lists k (get_or lists k [] ++ c) in
    let inside : k < length lists = omega arith in
    let count : (b : ℕ) → times b (concat (appended_from (k + 1) one cs)) ≡ times b (concat one) + times b (concat cs) = λ b. times_appended b (k + 1) one cs (omega arith) in
    let first : (b : ℕ) → times b (concat one) ≡ times b (concat lists) + times b c = λ b. times_set b lists k c inside in
    let e' : List ℕ = onto (targets_in line.0) e in
    let more : (run : List Attempt) × IsBlock g workers e' one (appended_from (k + 1) one cs) run = step_run g workers (k + 1) targets item e' one cs same (omega arith) (same_long ∙ long) led.1
    (λ b i. ⊎_elim (λ f. inl f) (λ r. inr (r.0, onto_keeps (targets_in line.0) e r.0 r.1, r.2)) (items b i))
    (λ b h. out b (let p : times b (c ++ concat cs) ≡ times b c + times b (concat cs) = times-append b c (concat cs) in omega arith)) once in
    let lined : after lists line.0 ≡ set lists k (get_or lists k [] ++ targets_in line.0) =
    after_line lists k line.0 line.1.worker inside
    (λ b h l. let h' : Has c b = subst (λ (t : List ℕ). Has t b) line.1.targets h in let p = count b in let q = first b in let o : times b (concat (appended_from (k + 1) one cs)) ≤ 1 = once b in omega arith)
    (λ b. subst (λ (t : List ℕ). times b t ≤ 1) (sym line.1.targets) (let p = count b in let q = first b in let o : times b (concat (appended_from (k + 1) one cs)) ≤ 1 = once b in omega arith)) in
    let does : after lists line.0 ≡ one = lined ∙ ap (λ (t : List ℕ). set lists k (get_or lists k [] ++ t)) line.1.targets in (
      line.0 ++ more.0,
      block_behind g workers e lists one (appended_from (k + 1) one cs) line.0 more.0
          (all_weaker (λ a. a.worker ≡ k) (λ a. a.worker < workers) (λ a is. omega arith) line.0 line.1.worker) line.1.lawful does more.1,
    )

-- ---- the law

pub begins : (g : Graph) (workers : ℕ) (seen : List ℕ) → Within g.given seen → IsUnderWay g workers (replicate workers []) [] seen
begins g workers seen given = record {
  run = ([], record { in_range = tt; lawful = tt; lists = refl });
  given = given;
  scanned = λ s b h t. absurd (let z : 0 < 0 = subst (λ (l : List ℕ). Has l s) (nothing_held workers) h in omega arith);
}

length_after_run : (lists : List (List ℕ)) (run : List Attempt) → length (after lists run) ≡ length lists
length_after_run lists [] = refl
length_after_run lists (a ∷ run) = length_after_run (attempted lists a.worker a.target) run ∙ length_after lists a.worker a.target

-- the claims of a run are what it attempts
claimed_in : (g : Graph) (workers : ℕ) (claims : List (List ℕ)) (run : List Attempt) → IsRunTo g workers claims run → (b : ℕ) → Has (concat claims) b ↔ Has (targets_in run) b
claimed_in g workers claims run r b = ((λ h. of_has (targets_in run) b (sym same ∙ to_has (concat claims) b h)), (λ h. of_has (concat claims) b (same ∙ to_has (targets_in run) b h)))
  where
    same : is_claimed claims b ≡ has (targets_in run) b
    same = ap (λ (l : List (List ℕ)). is_claimed l b) (sym r.lists)
        ∙ claimed_after_run (replicate workers []) run (in_range_of workers run r.in_range) b
        ∙ ap (λ t. t || has (targets_in run) b) (nothing_claimed workers b)

pub goes_on : (g : Graph) (workers : ℕ) (item : ℕ → Type 0) (claims gained : List (List ℕ)) (left waiting later before after' : List ℕ)
    → IsUnderWay g workers claims waiting before → IsKept (targets_of g) item before after' gained left
    → IsNext g workers item claims gained left waiting later → IsUnderWay g workers (appended_from 0 claims gained) later after'
goes_on g workers item claims gained left waiting later before after' u k n = record {
  run = (
    u.run.0 ++ block.0,
    record {
      in_range = all-append (λ a. a.worker < workers) u.run.0 block.0 u.run.1.in_range block.1.in_range;
      lawful = lawful-append g [] u.run.0 block.0 u.run.1.lawful block.1.lawful;
      lists = after-append (replicate workers []) u.run.0 block.0 ∙ ap (λ (l : List (List ℕ)). after l block.0) u.run.1.lists ∙ block.1.gives;
    },
  );
  given = λ b h. k.keeps b (u.given b h);
  scanned = λ s b h t. let c : times s (concat (appended_from 0 claims gained)) ≡ times s (concat claims) + times s (concat gained) = times_appended s 0 claims gained fit in
      either (times s (concat claims)) (times s (concat gained)) (omega arith)
      (λ old. ⊎_elim (λ w. ⊎_elim (λ l. inl l) (λ i. inr (k.covers b (i b t))) (n.waits s w)) (λ d. inr (k.keeps b d)) (u.scanned s b old t))
      (λ new. ⊎_elim (λ l. inl (n.rest s l)) (λ d. inr d) (k.scans s b new t));
}
  where
    long : length claims ≡ workers
    long = ap length (sym u.run.1.lists) ∙ length_after_run (replicate workers []) u.run.0 ∙ length-replicate {A = List ℕ} workers []

    fit : 0 + length gained ≤ length claims
    fit = let few = n.few in let l = long in omega arith

    e : List ℕ
    e = onto (targets_in u.run.0) []

    held : (s : ℕ) → Has (concat claims) s → Has e s
    held s h = onto_has (targets_in u.run.0) [] s ((claimed_in g workers claims u.run.0 u.run.1 s).0 h)

    block : (run : List Attempt) × IsBlock g workers e claims (appended_from 0 claims gained) run
    block = step_run g workers 0 (targets_of g) item e claims gained (λ s. refl) (let few = n.few in omega arith) long k.led
        (λ b i. ⊎_elim (λ f. inl f) (λ s. inr (s.0, held s.0 s.1, s.2)) (n.items b i))
        (λ b h o. k.fresh b h (u.given b o)) n.once

pub ends : (g : Graph) (workers : ℕ) (claims : List (List ℕ)) (seen : List ℕ) → IsUnderWay g workers claims [] seen
    → Within g.first seen → ((b : ℕ) → Has seen b → Has g.given b ⊎ Has (concat claims) b)
    → (run : List Attempt) × IsWholeRun g workers run × (claims_after workers run ≡ claims)
ends g workers claims seen u roots all = (
  u.run.0,
  record {
    in_range = u.run.1.in_range;
    lawful = u.run.1.lawful;
    first = λ b f out. attempted_of b out (all b (roots b f));
    next = λ s b h t out.
        attempted_of b out (all b (⊎_elim (λ z. absurd (let y : 0 < 0 = z in omega arith)) (λ d. d)
        (u.scanned s b ((claimed_in g workers claims u.run.0 u.run.1 s).1 h) t)));
  },
  u.run.1.lists,
)
  where
    attempted_of : (b : ℕ) → ¬ Has g.given b → Has g.given b ⊎ Has (concat claims) b → Has (targets_in u.run.0) b
    attempted_of b out h = ⊎_elim (λ i. absurd (out i)) (λ c. (claimed_in g workers claims u.run.0 u.run.1 b).0 c) h

-- a step in which each claim is left and led to by an item
led_by_items : (targets : ℕ → List ℕ) (item : ℕ → Type 0) (earlier claims : List ℕ) → ((b : ℕ) → Has claims b → item b) → AreLed targets item earlier claims
led_by_items targets item earlier [] h = tt
led_by_items targets item earlier (b ∷ claims) h = (inl (h b (here b claims)), led_by_items targets item (b ∷ earlier) claims (λ x i. h x (there b claims x i)))

all_led : (targets : ℕ → List ℕ) (item : ℕ → Type 0) (gained : List (List ℕ)) → ((b : ℕ) → Has (concat gained) b → item b) → AllByRecursion (AreLed targets item []) gained
all_led targets item [] h = tt
all_led targets item (c ∷ cs) h = (
  led_by_items targets item [] c (λ b i. h b (let p : times b (c ++ concat cs) ≡ times b c + times b (concat cs) = times-append b c (concat cs) in omega arith)),
  all_led targets item cs (λ b i. h b (let p : times b (c ++ concat cs) ≡ times b c + times b (concat cs) = times-append b c (concat cs) in omega arith)),
)

pub in_rounds : (targets : ℕ → List ℕ) (item : ℕ → Type 0) (before after' : List ℕ) (gained : List (List ℕ)) → IsKeptInRounds item before after' (concat gained) → IsKept targets item before after' gained (concat gained)
in_rounds targets item before after' gained k = record {
  keeps = k.keeps;
  covers = k.covers;
  scans = λ s b h t. inl h;
  fresh = k.fresh;
  led = all_led targets item gained k.gains;
}

-- ---- all steps

all_steps : (g : Graph) (workers : ℕ) (claims : List (List ℕ)) (waiting seen : List ℕ) (steps : List Step) → IsUnderWay g workers claims waiting seen → AreKept g workers claims waiting seen steps
    → IsUnderWay g workers (claims_of claims steps) (waiting_of waiting steps) (seen_of seen steps)
all_steps g workers claims waiting seen [] u k = u
all_steps g workers claims waiting seen (s ∷ steps) u k = all_steps g workers (appended_from 0 claims s.gained) s.later s.seen steps (goes_on g workers (Has s.items) claims s.gained s.left waiting s.later seen s.seen u k.0 k.1) k.2

pub steps_make_a_run : (g : Graph) (workers : ℕ) (seen : List ℕ) (steps : List Step) → Within g.given seen
    → AreKept g workers (replicate workers []) [] seen steps → waiting_of [] steps ≡ [] → Within g.first (seen_of seen steps)
    → ((b : ℕ) → Has (seen_of seen steps) b → Has g.given b ⊎ Has (concat (claims_of (replicate workers []) steps)) b)
    → (run : List Attempt) × IsWholeRun g workers run × (claims_after workers run ≡ claims_of (replicate workers []) steps)
steps_make_a_run g workers seen steps given kept none roots all = ends g workers (claims_of (replicate workers []) steps) (seen_of seen steps)
    (subst (λ (l : List ℕ). IsUnderWay g workers (claims_of (replicate workers []) steps) l (seen_of seen steps)) none (all_steps g workers (replicate workers []) [] seen steps (begins g workers seen given) kept)) roots all
