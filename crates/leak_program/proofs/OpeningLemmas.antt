-- One more path is opened.
use Rattle.std.proofs.Common.{◌≡◌, ℕ, List, [], ◌∷◌, ◌++◌, Ok, inl, refl}
use Rattle.leak_program.specs.Opening.{AreOpened, IsCutShort, Opens}

pub opened_more : {O F : Type 0} (opens : Opens O F) (paths : List (List ℕ)) (path : List ℕ) (first : O) (files : List F) (file : F) (before last : O)
    → AreOpened opens paths first files before → opens before path (Ok file) last → AreOpened opens (paths ++ path ∷ []) first (files ++ file ∷ []) last
opened_more opens [] path first [] file before last so next = (last, rw (← so) next, refl)
opened_more opens [] path first (f ∷ files) file before last so next = absurd so
opened_more opens (p ∷ paths) path first [] file before last so next = absurd so
opened_more opens (p ∷ paths) path first (f ∷ files) file before last so next =
    (so.0, so.1, opened_more opens paths path so.0 files file before last so.2 next)

-- those of two lists of paths, one after the other
pub opened_both : {O F : Type 0} (opens : Opens O F) (paths more : List (List ℕ)) (first : O) (files others : List F) (before last : O)
    → AreOpened opens paths first files before → AreOpened opens more before others last → AreOpened opens (paths ++ more) first (files ++ others) last
opened_both opens [] more first [] others before last so next = rw (← so) next
opened_both opens [] more first (f ∷ files) others before last so next = absurd so
opened_both opens (p ∷ paths) more first [] others before last so next = absurd so
opened_both opens (p ∷ paths) more first (f ∷ files) others before last so next =
    (so.0, so.1, opened_both opens paths more so.0 files others before last so.2 next)

-- no path is opened yet
pub none_opened : {O F : Type 0} (opens : Opens O F) (paths : List (List ℕ)) (first : O) → IsCutShort opens paths first first
none_opened opens paths first = inl (record { earlier = []; later = paths; split = refl; files = []; opened = refl })

-- the paths of a first part are opened
pub part_opened : {O F : Type 0} (opens : Opens O F) (paths earlier later : List (List ℕ)) (first : O) (files : List F) (last : O)
    → paths ≡ earlier ++ later → AreOpened opens earlier first files last → IsCutShort opens paths first last
part_opened opens paths earlier later first files last split opened =
    inl (record { earlier = earlier; later = later; split = split; files = files; opened = opened })
