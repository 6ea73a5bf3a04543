-- What is kept of a core that was sifted.
use Rattle.std.proofs.Common.{◌≡◌, ◌∙◌, ℕ, ◌+◌, inr, List, [], ◌++◌, length, take, drop, refl, sym, ap, subst, arith}
use Rattle.std.proofs.lemmas.List.{append_assoc, length-take-le, take-append-drop}
use Rattle.leak_elf.specs.declared.segment.Segment.{Segment}
use Rattle.leak_elf.specs.Segments.{segments_of}
use Rattle.leak_blocks.specs.declared.block.Block.{Block}
use Rattle.leak_roots.specs.declared.skip.Skip.{Skip}
use Rattle.leak_sift.specs.Kept.{Rule}
use Rattle.leak_sift.specs.Places.{AreOrderly}
use Rattle.leak_sift.specs.Sifted.{HasTaken, Sifted, Takes, kept_at, sifted}
use Rattle.leak_sift.proofs.TakenLemmas.{takes_both}
use Rattle.leak_sift.proofs.WordLemmas.{by_words-few}
use Rattle.leak_streams.specs.Reads.{Calls}
use Rattle.leak_passing.specs.declared.begun.Front.{Front}
use Rattle.leak_passing.specs.Begun.{IsAtHead}
use Rattle.leak_alike.specs.SiftedCores.{AreBytes}
use Rattle.leak_passing.specs.Kept.{Keeps, rule_by}
use Rattle.leak_passing.specs.Sifting.{SiftsRest}
use Rattle.leak_passing.proofs.ByteLemmas.{bytes_append, bytes_drop}
use Rattle.leak_passing.proofs.HeadLemmas.{head_of}

-- a sifting that takes no bytes yet
abbrev pub begun : Rule → List Segment → ℕ → Sifted
begun rule segments head = record { rule = rule; segments = segments; head = head; words = []; waiting = [] }

taken_none : (rule : Rule) (segments : List Segment) (head : ℕ) → HasTaken (begun rule segments head) []
taken_none rule segments head = record { words = sym (by_words-few (λ distance word. kept_at rule segments (head + distance) word) [] (omega arith)); waiting = refl }

-- it took these bytes from the beginning
module _ (rule : Rule) (segments : List Segment) (head : ℕ) (start end : Sifted) (bytes : List ℕ) (is : start ≡ begun rule segments head) (takes : Takes start bytes end) where
  pub taken_all : HasTaken end bytes
  taken_all = takes.taken [] (subst (λ (s : Sifted). HasTaken s []) (sym is) (taken_none rule segments head))

  pub words_are : end.words ≡ sifted rule segments head bytes
  words_are =
      taken_all.words
      ∙ ap (λ (r : Rule). sifted r end.segments end.head bytes) (takes.rule ∙ ap (λ (s : Sifted). s.rule) is)
      ∙ ap (λ (l : List Segment). sifted rule l end.head bytes) (takes.segments ∙ ap (λ (s : Sifted). s.segments) is)
      ∙ ap (λ (n : ℕ). sifted rule segments n bytes) (takes.head ∙ ap (λ (s : Sifted). s.head) is)

-- the head and what was read with it, one after the other
cut : (held more : List ℕ) (n : ℕ) → held ++ more ≡ take n held ++ (drop n held ++ more)
cut held more n = ap (λ (l : List ℕ). l ++ more) (sym (take-append-drop n held)) ∙ append_assoc (take n held) (drop n held) more

-- what is kept of a core that was read up to its head, and then sifted to its end
module _ {R : Type 0} (calls : Calls R) (limit : ℕ) (first before after : R) (skip : Skip) (blocks : List Block) (front : Front) (at : IsAtHead calls limit first before skip front) where
  pub keeps : (start middle later : Sifted) (more held words : List ℕ) (len : ℕ) → start ≡ begun (rule_by skip blocks) front.segments.items front.head
      → Takes start (drop front.head front.held.items) middle → SiftsRest calls limit before front.reading middle after later more
      → held ≡ take front.head front.held.items → AreBytes front.held.items
      → words ≡ later.words → len ≡ length (drop front.head front.held.items ++ more)
      → Keeps calls limit first after skip blocks held words len
  keeps start middle later more held words len is begins sifts cut_to small words_is counted =
      let bytes = drop front.head front.held.items ++ more in
      let all = takes_both start middle later (drop front.head front.held.items) more begins sifts.taken in
      let head = head_of front.held.items front.head at.head in
      let long : length held ≡ front.head = ap length cut_to ∙ length-take-le front.head front.held.items at.head.within in
      let same : front.segments.items ≡ segments_of held = at.segments.of_head ∙ ap segments_of (sym cut_to) in
      record {
        core = front.held.items ++ more;
        whole = sifts.whole first front.held.items at.come;
        kept = inr (record {
          more = bytes;
          core_is = cut front.held.items more front.head ∙ ap (λ (l : List ℕ). l ++ bytes) (sym cut_to);
          can = record {
            head = rw cut_to (head.0);
            undumped = rw cut_to (head.1);
            orderly = subst AreOrderly same at.segments.orderly;
            bytes = bytes_append (drop front.head front.held.items) more (bytes_drop front.head front.held.items small) sifts.bytes;
          };
          alive = at.alive;
          words_are = words_is ∙ words_are (rule_by skip blocks) front.segments.items front.head start later bytes is all
              ∙ ap (λ (l : List Segment). sifted (rule_by skip blocks) l front.head bytes) same
              ∙ ap (λ (n : ℕ). sifted (rule_by skip blocks) (segments_of held) n bytes) (sym long);
          len_is = counted;
        });
      }
