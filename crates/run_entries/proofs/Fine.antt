-- What is fine names nothing, and stops nothing but for want of memory.
use Rattle.run_entries.proofs.Prelude.{◌≡◌, ℕ, ◌<◌, ◌≤◌, Bool, true, false, not, ◌&&◌, ◌||◌, cond, List, [], ◌∷◌, ◌++◌, map, length, Option, Some, None, IfSome}
use Rattle.run_entries.proofs.Prelude.{refl, sym, ap, subst, arith, ◌∙◌, ⊎_elim, is_some, is_none, All, AllByRecursion, sum_by, flat_map, bytes_decides, get}
use Rattle.run_entries.proofs.Prelude.{insert, get-insert, eq_by_cmp, false≢true, recursion_from_All, All-from_recursion, path_cmp, parent_of, path_cmp_total}
use Rattle.run_entries.proofs.Prelude.{path_cmp_ties, Files, Node, Body, dir, file, link, other, IsTree, is_root, is_dir, is_file, is_dir_body, is_file_body}
use Rattle.run_entries.proofs.Prelude.{new_file, RoseBy, StoodStill, HoldsFile, can_save, Entry, Two, Spells, SpellsAs, SpellsOne, RefusesExactly, IsRefused}
use Rattle.run_entries.proofs.Prelude.{IsTooLong, Look, Seen, AreLooks, is_at, LooksWithoutFaultsAreTold, mark_whys, number_whys, whys_of, notes_of, AreInOrder}
use Rattle.run_entries.proofs.Prelude.{NothingToOrder, Valid, paths_in, Origin, roots, input, walk, all_told, answers_in, weight_of, WalkWithoutFaultsIsFine}
use Rattle.run_entries.proofs.Prelude.{RootsAreUnique, Stop, Side, side_with, Output, newer_in, look_whys, look_notes, on_side, listing_notes, Saved, Walked}
use Rattle.run_entries.proofs.Prelude.{Listed, HasTooManyEntries, IsDamagedList, IsAbsent, StopsListing, StopsAt, IsFineWalk, IsFineList, IsFineStart}
use Rattle.run_entries.proofs.Prelude.{FineFindsNameNothing, FineFindsStopForMemory, FineWalksNameNothing, FineWalksAreWhole, FineWalksStopForMemory}
use Rattle.run_entries.proofs.Prelude.{FinePlacesStopForMemory, none_counted}
use Rattle.entry_pages.specs.declared.entries.Mark.TheVariants as mark
use Rattle.path_looks.specs.declared.looks.Seen.TheVariants as seen
use Rattle.tool_text.specs.declared.noting.Why.TheVariants as why
use Rattle.run_report.specs.declared.stops.Trouble.TheVariants as trouble
use Rattle.run_report.specs.declared.stops.Stop.TheVariants as stop

-- ---- counts

pub no_fault : (old new : ℕ) → RoseBy 1 old new → StoodStill old new → ⊥
no_fault old new rose stood = absurd (let e = none_counted 1 old new rose stood in omega arith)

-- a count that stood still did so in both of its parts
pub record StoodInBoth (old between new : ℕ) : Type 0 where
  pub first : StoodStill old between
  pub second : StoodStill between new

in_both : {k : ℕ} (old between new : ℕ) → RoseBy k old between → between ≤ new → StoodStill old new → StoodInBoth old between new
in_both old between new rose later stood = record {
  first = record { same = omega (arith, rose.kept, later, stood.same); below_end = omega (arith, later, stood.below_end) };
  second = record { same = omega (arith, rose.kept, later, stood.same); below_end = stood.below_end };
}

-- ---- entries that name nothing

abbrev IsAnswered : Entry → Type 0
IsAnswered e = (e.mark ≡ mark.Fine) × (e.unnamed ≡ 0)

abbrev pub IsFine : Entry → Type 0
IsFine e = (e.mark ≡ mark.Fine) × (e.unnamed ≡ 0) × (e.far ≡ 0)

both : (entries : List Entry) → AllByRecursion IsAnswered entries → AllByRecursion (λ e. e.far ≡ 0) entries → AllByRecursion IsFine entries
both [] h g = tt
both (e ∷ entries) h g = ((h.0.0, h.0.1, g.0), both entries h.1 g.1)

no_whys : (e : Entry) → IsFine e → whys_of e ≡ []
no_whys e h = λ i. mark_whys (h.0 i) ++ number_whys why.Unnamed (h.1 i) ++ number_whys why.TooLong (h.2 i)

pub no_notes : (entries : List Entry) → AllByRecursion IsFine entries → notes_of entries ≡ []
no_notes [] h = refl
no_notes (e ∷ entries) h = (λ i. map (λ w. record { path = e.path; why = w; dest = false }) (no_whys e h.0 i) ++ no_notes entries h.1 i)

no_listing_notes : (dest : Bool) (entries : List Entry) → AllByRecursion IsFine entries → listing_notes (record { entries = entries; dest = dest }) ≡ []
no_listing_notes dest entries h = ap (map (on_side dest)) (no_notes entries h)

-- ---- a walk

-- the laws that this rests on
pub record Laws : Type 0 where
  pub walks : WalkWithoutFaultsIsFine
  pub one_roots : RootsAreUnique

-- what is so of files that tell their tree
pub of_told : (P : Files → Type 0) (tree : Option Files) (files : Files) → tree ≡ Some files → IfSome tree P → P files
of_told P tree files told h = subst (λ t. IfSome t P) told h

-- a relation of two trees is so of the one that is told
pub some_of : (P : Files → Files → Type 0) (t t' : Option Files) (files : Files) → t ≡ Some files → is_some t' ≡ is_some t →
    IfSome t (λ old. IfSome t' (P old)) → (after : Files) × P files after
some_of P None t' files e tells h = cc
some_of P (Some old) None files e tells h = absurd (false≢true tells)
some_of P (Some old) (Some after) files e tells h = (after, subst (λ o. P o after) (ap (λ o. the o files) e) h)
  where
    the : Option Files → Files → Files
    the None d = d
    the (Some x) d = x

fine : (files : Files) (starts : List (List ℕ)) (entries : List Entry) → WalkWithoutFaultsIsFine → (0 < length starts → IsTree files) →
    All (λ root. is_some (get files root) ≡ true) starts → entries ≡ flat_map (walk files (answers_in entries)) starts → sum_by weight_of entries ≡ 0 →
    (entries ≡ flat_map (walk files all_told) starts) × All IsAnswered entries
fine files [] entries law valid there told zero = (told, subst (λ es. All IsAnswered es) (sym told) (All-from_recursion IsAnswered [] tt))
fine files (start ∷ starts) entries law valid there told zero = law files (start ∷ starts) entries (valid (omega arith)) there told zero

-- what was walked of starts that are there, over files that counted nothing
pub record IsWhole (files : Files) (starts : List (List ℕ)) (entries : List Entry) : Type 0 where
  pub same : entries ≡ flat_map (walk files all_told) starts
  pub unnamed : (dest : Bool) → All (λ e. e.far ≡ 0) (flat_map (walk files all_told) starts) → listing_notes (record { entries = entries; dest = dest }) ≡ []

whole : (given : List (List ℕ)) (files : Files) (entries : List Entry) (before after : Side) → Laws → All Valid given → before.tree ≡ Some files →
    (w : Walked given entries before after) (f : IsFineWalk files given) → StoodStill before.count after.count → IsWhole files f.roots entries
whole given files entries before after laws valid told w f stood =
    let same : w.roots ≡ f.roots = laws.one_roots given w.roots f.roots valid w.are f.are in
    let tree : 0 < length w.roots → IsTree files = λ some. of_told IsTree before.tree files told (w.valid some) in
    let walks : entries ≡ flat_map (walk files (answers_in entries)) w.roots =
    of_told (λ files. entries ≡ flat_map (walk files (answers_in entries)) w.roots) before.tree files told w.told
    in
    let all =
    fine files f.roots entries laws.walks (subst (λ rs. 0 < length rs → IsTree files) same tree) f.there
    (subst (λ rs. entries ≡ flat_map (walk files (answers_in entries)) rs) same walks)
    (none_counted (sum_by weight_of entries) before.count after.count w.counted stood)
    in
    record {
      same = all.0;
      unnamed = λ dest near.
          no_listing_notes dest entries
          (both entries (recursion_from_All IsAnswered entries all.1)
          (recursion_from_All (λ e. e.far ≡ 0) entries (subst (λ es. All (λ e. e.far ≡ 0) es) (sym all.0) near)));
    }

-- ---- a list file

-- the bytes of the file that is there spell the fine list
spelled : (files : Files) (path bytes : List ℕ) → HoldsFile bytes (get files path) → (f : IsFineList files path) → Spells bytes f.entries
spelled files path bytes holds f = subst (λ b. Spells b f.entries) (f.holds.same ∙ sym holds.same) f.spells

-- ---- what was listed names nothing

nothing_named : (start : Origin) (files : Files) (entries : List Entry) (before after : Side) → Laws → SpellsOne → All Valid (paths_in start) →
    before.tree ≡ Some files →
    Listed start entries before after → IsFineStart files start → StoodStill before.count after.count →
    listing_notes (record { entries = entries; dest = false }) ≡ []
nothing_named (roots given) files entries before after laws one valid told w f stood =
    (whole given files entries before after laws valid told w f stood).unnamed false f.near
nothing_named (input path) files entries before after laws one valid told r f stood =
    let read = of_told (λ files. (bytes : List ℕ) × HoldsFile bytes (get files path) × Spells bytes entries) before.tree files told r.told in
    let same : f.entries ≡ entries = one.one_list read.0 f.entries entries (spelled files path read.0 read.1 f) read.2 in
    no_listing_notes false entries (recursion_from_All IsFine entries (subst (λ es. All IsFine es) same f.fine))

-- looks that told a time name nothing
look_named : (seen : Seen) → is_at seen ≡ true → look_whys seen ≡ []
look_named (seen.At mtime) e = refl
look_named seen.Absent e = absurd (cc)
look_named seen.Failed e = absurd (cc)

looks_named : (looks : List Look) → AllByRecursion (λ l. is_at l.seen ≡ true) looks → flat_map look_notes looks ≡ []
looks_named [] h = refl
looks_named (l ∷ looks) h = (λ i. map (λ w. record { path = l.path; why = w; dest = false }) (look_named l.seen h.0 i) ++ looks_named looks h.1 i)

pub names_nothing : Laws → SpellsOne → LooksWithoutFaultsAreTold → NothingToOrder → FineFindsNameNothing
names_nothing laws one told order common start choice now before after chosen notes account valid f there finds =
    let survey = finds.survey in
    let looked = subst (λ t. AreLooks t (newer_in choice) finds.looks before.count survey.between) f.told survey.looked in
    let stood = in_both before.count survey.between after.count survey.looked.counted survey.later f.stood in
    let seen = told f.files (newer_in choice) finds.looks before.count survey.between looked there stood.first in
    let looks = looks_named finds.looks (recursion_from_All _ finds.looks seen) in
    let entries =
    nothing_named start f.files finds.entries (side_with before.tree survey.between) after laws one valid f.told survey.listed f.fine stood.second
    in
    order.none notes (subst (λ given. AreInOrder given notes) (λ i. looks i ++ (entries i ++ [])) finds.names)

-- ---- what is fine does not stop a run

too_much : (start : Origin) (files : Files) (before after : Side) → Laws → RefusesExactly → All Valid (paths_in start) → before.tree ≡ Some files →
    HasTooManyEntries start before after → IsFineStart files start → StoodStill before.count after.count → ⊥
too_much (roots given) files before after laws exact valid told long f stood =
    absurd (omega (arith, long.many, f.few, ap length (whole given files long.entries before after laws valid told long.walked f stood).same))
too_much (input path) files before after laws exact valid told long f stood =
    let read = of_told (λ files. (bytes : List ℕ) × HoldsFile bytes (get files path) × IsTooLong bytes) before.tree files told long in
    absurd (omega (arith, exact.long_list read.0 f.entries (spelled files path read.0 read.1 f) read.2, f.few))

damaged : (start : Origin) (files : Files) (before : Side) (path : List ℕ) (line : ℕ) → RefusesExactly → before.tree ≡ Some files →
    IsDamagedList start before path line →
    IsFineStart files start → ⊥
damaged start files before path line exact told bad f =
    let list : IsFineList files path = subst (IsFineStart files) bad.named f in
    let read = of_told (λ files. (bytes : List ℕ) × HoldsFile bytes (get files path) × IsRefused bytes line) before.tree files told bad.told in
    exact.no_damage read.0 list.entries line (spelled files path read.0 read.1 list) read.2.damaged

absent : (start : Origin) (files : Files) (before : Side) (path : List ℕ) → before.tree ≡ Some files → IsAbsent start before path → IsFineStart files start → ⊥
absent start files before path told none f =
    let list : IsFineList files path = subst (IsFineStart files) none.named f in
    let here = of_told (λ files. is_file (get files path) ≡ false) before.tree files told none.told in
    false≢true (sym here ∙ list.holds.is_file)

for_memory : (start : Origin) (files : Files) (before after : Side) (reason : Stop) → Laws → RefusesExactly → All Valid (paths_in start) →
    before.tree ≡ Some files →
    IsFineStart files start → StoodStill before.count after.count → StopsListing start before after reason → reason ≡ stop.OutOfMemory
for_memory start files before after stop.OutOfMemory laws exact valid told f stood stops = refl
for_memory start files before after stop.Overlap laws exact valid told f stood stops = absurd stops
for_memory start files before after stop.NoDirectory laws exact valid told f stood stops = absurd stops
for_memory start files before after stop.TooMany laws exact valid told f stood stops =
    absurd (too_much start files before after laws exact valid told stops f stood)
for_memory start files before after (stop.Stopped handled left) laws exact valid told f stood stops = absurd stops
for_memory start files before after (stop.Damaged path line) laws exact valid told f stood stops =
    absurd (damaged start files before path line exact told stops f)
for_memory start files before after (stop.ListFile trouble.Absent path) laws exact valid told f stood stops =
    absurd (absent start files before path told stops f)
for_memory start files before after (stop.ListFile trouble.NoPlace path) laws exact valid told f stood stops = absurd stops
for_memory start files before after (stop.ListFile trouble.Fault path) laws exact valid told f stood stops =
    absurd (no_fault before.count after.count stops.counted stood)

pub stops_for_memory : Laws → RefusesExactly → FineFindsStopForMemory
stops_for_memory laws exact start choice before after reason valid f stops =
    ⊎_elim (λ is. is)
    (λ s.
    let stood = in_both before.count s.between after.count s.looked.counted s.later f.stood in
    for_memory start f.files (side_with before.tree s.between) after reason laws exact valid f.told f.fine stood.second s.stops)
    stops

-- ---- a walk by itself

pub walks_name_nothing : Laws → FineWalksNameNothing
walks_name_nothing laws given entries dest before after valid f w =
    (whole given f.files entries before after laws valid f.told w f.fine f.stood).unnamed dest f.fine.near

pub walks_are_whole : Laws → FineWalksAreWhole
walks_are_whole laws given entries before after valid f w = (whole given f.files entries before after laws valid f.told w f.fine f.stood).same

pub walks_stop_for_memory : Laws → RefusesExactly → FineWalksStopForMemory
walks_stop_for_memory laws exact given before after reason valid f stops =
    for_memory (roots given) f.files before after reason laws exact valid f.told f.fine f.stood stops

-- ---- outputs that are saved

abbrev is_free : Option Node → Bool
is_free node = is_none node || is_file node

no_dir_body : (b : Body) → is_dir_body b ≡ true → is_file_body b ≡ true → ⊥
no_dir_body (dir far) d f = false≢true f
no_dir_body (file bytes) d f = false≢true d
no_dir_body (link text) d f = false≢true d
no_dir_body other d f = false≢true d

no_dir : (node : Option Node) → is_dir node ≡ true → is_free node ≡ true → ⊥
no_dir None d f = false≢true d
no_dir (Some node) d f = no_dir_body node.body d f

dir_stays : (b : Bool) (here : Option Node) (bytes : List ℕ) → (b ≡ true → ⊥) → is_dir here ≡ true → is_dir (cond b (Some (new_file bytes)) here) ≡ true
dir_stays true here bytes off h = absurd (off refl)
dir_stays false here bytes off h = h

free_stays : (b : Bool) (here : Option Node) (bytes : List ℕ) → is_free here ≡ true → is_free (cond b (Some (new_file bytes)) here) ≡ true
free_stays true here bytes h = refl
free_stays false here bytes h = h

all_of : (a b c : Bool) → (a && (b && c)) ≡ true → (a ≡ true) × (b ≡ true) × (c ≡ true)
all_of true true true e = (refl, refl, refl)
all_of true true false e = absurd (false≢true e)
all_of true false c e = absurd (false≢true e)
all_of false b c e = absurd (false≢true e)

-- what is saved somewhere takes no place away
place_stays : (files : Files) (p bytes q : List ℕ) → can_save files p ≡ true → can_save files q ≡ true → can_save (insert files p (new_file bytes)) q ≡ true
place_stays files p bytes q can_p can_q =
    let over = parent_of q in
    let of_p = all_of (not (is_root p)) (is_dir (get files (parent_of p))) (is_free (get files p)) can_p in
    let of_q = all_of (not (is_root q)) (is_dir (get files over)) (is_free (get files q)) can_q in
    let at : (x : List ℕ) → get (insert files p (new_file bytes)) x ≡ cond (eq_by_cmp path_cmp x p) (Some (new_file bytes)) (get files x) =
    λ x. get-insert path_cmp_total files p (new_file bytes) x
    in
    let apart : eq_by_cmp path_cmp over p ≡ true → ⊥ =
    λ tied. no_dir (get files p) (ap (λ x. is_dir (get files x)) (sym ((bytes_decides over p).0 (path_cmp_ties over p ∙ tied))) ∙ of_q.1) of_p.2
    in
    let dir : is_dir (get (insert files p (new_file bytes)) over) ≡ true = ap is_dir (at over) ∙ dir_stays _ (get files over) bytes apart of_q.1 in
    let free : is_free (get (insert files p (new_file bytes)) q) ≡ true = ap is_free (at q) ∙ free_stays _ (get files q) bytes of_q.2 in
    λ i. of_q.0 i && (dir i && free i)

-- so after outputs with a place are saved, each path that had one has one
place_after : (earlier : List Output) (old new : Option Files) (files : Files) (path : List ℕ) → old ≡ Some files → Saved earlier old new →
    AllByRecursion (λ output. can_save files output.path ≡ true) earlier → can_save files path ≡ true → IfSome new (λ now. can_save now path ≡ true)
place_after [] old new files path told same can here = subst (λ t. IfSome t (λ now. can_save now path ≡ true)) (sym (same ∙ told)) here
place_after (output ∷ earlier) old new files path told saved can here =
    let at = of_told (λ files. (bytes : List ℕ) × SpellsAs Two bytes output.list × (can_save files output.path ≡ true)
    × (saved.0 ≡ Some (insert files output.path (new_file bytes)))) old files told saved.1.1 in
    place_after earlier saved.0 new (insert files output.path (new_file at.0)) path at.3 saved.2
    (places_stay files output.path at.0 at.2 earlier can.1) (place_stays files output.path at.0 path at.2 here)
  where
    places_stay : (files : Files) (p bytes : List ℕ) → can_save files p ≡ true → (outputs : List Output) →
        AllByRecursion (λ output. can_save files output.path ≡ true) outputs →
        AllByRecursion (λ output. can_save (insert files p (new_file bytes)) output.path ≡ true) outputs
    places_stay files p bytes can [] h = tt
    places_stay files p bytes can (output ∷ outputs) h = (place_stays files p bytes output.path can h.0, places_stay files p bytes can outputs h.1)

-- each of some outputs that stand one after the other
parts_of : (P : Output → Type 0) (earlier : List Output) (first : Output) (later : List Output) → AllByRecursion P (earlier ++ first ∷ later) →
    AllByRecursion P earlier × P first
parts_of P [] first later h = (tt, h.0)
parts_of P (output ∷ earlier) first later h = let rest = parts_of P earlier first later h.1 in ((h.0, rest.0), rest.1)

no_place : (tree : Option Files) (path : List ℕ) → (files : Files) → tree ≡ Some files → IfSome tree (λ files. can_save files path ≡ true) →
    IfSome tree (λ files. can_save files path ≡ false) → ⊥
no_place tree path files told can cannot =
    false≢true (sym (of_told (λ files. can_save files path ≡ false) tree files told cannot) ∙ of_told (λ files. can_save files path ≡ true) tree files told can)

-- the tree is told still
still_told : (earlier : List Output) (old new : Option Files) → Saved earlier old new → is_some new ≡ is_some old
still_told [] old new same = ap is_some same
still_told (output ∷ earlier) old new saved = still_told earlier saved.0 new saved.2 ∙ saved.1.0

tree_of : (tree : Option Files) → is_some tree ≡ true → (files : Files) × (tree ≡ Some files)
tree_of None e = absurd (false≢true e)
tree_of (Some files) e = (files, refl)

at_for_memory : (output : Output) (between after : Side) (why : Stop) → is_some between.tree ≡ true
    → IfSome between.tree (λ files. can_save files output.path ≡ true) →
    StoodStill between.count after.count → StopsAt output between after why → why ≡ stop.OutOfMemory
at_for_memory output between after stop.OutOfMemory told can stood stops = refl
at_for_memory output between after stop.Overlap told can stood stops = absurd stops
at_for_memory output between after stop.NoDirectory told can stood stops = absurd stops
at_for_memory output between after stop.TooMany told can stood stops = absurd stops
at_for_memory output between after (stop.Stopped handled left) told can stood stops = absurd stops
at_for_memory output between after (stop.Damaged path line) told can stood stops = absurd stops
at_for_memory output between after (stop.ListFile trouble.Absent path) told can stood stops = absurd stops
at_for_memory output between after (stop.ListFile trouble.NoPlace path) told can stood stops =
    let tree = tree_of between.tree told in absurd (no_place between.tree output.path tree.0 tree.1 can stops.told)
at_for_memory output between after (stop.ListFile trouble.Fault path) told can stood stops =
    absurd (no_fault between.count after.count stops.counted stood)

pub places_for_memory : FinePlacesStopForMemory
places_for_memory outputs files before after why told can stood s =
    let all = subst (λ os. AllByRecursion (λ output. can_save files output.path ≡ true) os) s.are
    (recursion_from_All (λ output. can_save files output.path ≡ true) outputs can) in
    let parts = parts_of (λ output. can_save files output.path ≡ true) s.earlier s.first s.later all in
    let still : is_some s.between.tree ≡ true = still_told s.earlier before.tree s.between.tree s.saved ∙ ap is_some told in
    let here = place_after s.earlier before.tree s.between.tree files s.first.path told s.saved parts.0 parts.1 in
    let after_stood : StoodStill s.between.count after.count =
    record { same = omega (arith, s.kept, s.still, stood.same); below_end = stood.below_end }
    in
    at_for_memory s.first s.between after why still here after_stood s.stops
