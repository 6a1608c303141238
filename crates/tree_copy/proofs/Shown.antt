-- The answers show the fate of an entry.
use Rattle.tree_copy.proofs.Prelude.{◌≡◌, ◌≢◌, ◌⊎◌, inl, inr, ℕ, zero, suc, Bool, true, false, cond, ◌||◌, ◌&&◌, List, [], ◌∷◌, length, map, Option, Some, None}
use Rattle.tree_copy.proofs.Prelude.{refl, ap, ◌∙◌, sym, subst, slice_get, is_some, arith, false≢true, or_from, All-from_recursion, Result, Ok, Err, IfOk, All}
use Rattle.tree_copy.proofs.Prelude.{AllByRecursion, filter, OutOfMemory, Asks, Write, Writes, Area, Failed, WriteError, Kind, ReadError, Stat, Entry, is_kind}
use Rattle.tree_copy.proofs.Prelude.{is_of, size_by, Item, Fate, Pair, HasCause, IsWritten, LookMeans, ReadMeans, RefusalMeans, Shows, ShowsCopy, ShowsFate}
use Rattle.tree_copy.proofs.Prelude.{ShowsWhy, WasWritten, copied, stopped, untold, look_means, read_means, refusal_means, is_done, is_tried, is_untold}
use Rattle.tree_copy.proofs.Prelude.{target_of, treated, AllMayCopy, MayCopy, ShowsFilled, ShowsPlaced, ShowsReplaced, ShowsSpared, is_taken, ShowsLeft}
use Rattle.tree_copy.proofs.Prelude.{any_odd, has_room, is_odd, is_other, item_of, items_of, settled, settled_by, same_some, done_is}
use Rattle.std.proofs.Common.{is_none}
use Rattle.outside.specs.Asked as asked
use Rattle.outside.specs.declared.plots.WriteError.TheVariants as write
use Rattle.outside.specs.declared.trees.Kind.TheVariants as kind
use Rattle.outside.specs.declared.trees.ReadError.TheVariants as read
use Rattle.level_work.specs.declared.items.Fate.TheVariants as fate
use Rattle.tree_copy.proofs.Comes.{Comes, Row, items_by, long, tried, under, weaker}

-- which fates answers mean

abbrev IsFailedOrChanged : Fate → Type 0
IsFailedOrChanged f = (f ≡ fate.Failed) ⊎ (f ≡ fate.Changed)

refusal_or : (x : WriteError) (f : Fate) → refusal_means x ≡ Some f → IsFailedOrChanged f
refusal_or write.Failed f e = inl (cc)
refusal_or write.Exists f e = inr (cc)
refusal_or write.NoParent f e = inr (cc)
refusal_or write.WrongKind f e = inr (cc)
refusal_or write.NotEmpty f e = inr (cc)
refusal_or write.Absent f e = inr (cc)
refusal_or write.OutOfMemory f e = cc

read_or : (x : Result ℕ ReadError) (f : Fate) → read_means x ≡ Some f → IsFailedOrChanged f
read_or (Ok zero) f e = inr (cc)
read_or (Ok (suc n)) f e = cc
read_or (Err read.Failed) f e = inl (cc)
read_or (Err read.NotFile) f e = inr (cc)

look_or : (wanted : Kind) (x : Result (Option Stat) Failed) (f : Fate) → look_means wanted x ≡ f →
    IsFailedOrChanged f ⊎ ((f ≡ fate.Done) ⊎ (f ≡ fate.Conflict))
look_or wanted (Ok None) f e = inl (inr (sym e))
look_or wanted (Ok (Some stat)) f e = inr (by (is_kind wanted stat.kind) e)
  where
    by : (b : Bool) → cond b fate.Done fate.Conflict ≡ f → (f ≡ fate.Done) ⊎ (f ≡ fate.Conflict)
    by true e = inl (sym e)
    by false e = inr (sym e)
look_or wanted (Err x) f e = inl (inl (sym e))

undone : (f : Fate) → IsFailedOrChanged f → f ≢ fate.Done
undone f (inl e) d = cc
undone f (inr e) d = cc

untried : (g : Fate) → is_tried (settled_by true g) ≡ false
untried fate.Done = refl
untried fate.Failed = refl
untried fate.Conflict = refl
untried fate.Skipped = refl
untried fate.ParentFailed = refl
untried fate.Changed = refl
untried fate.NotEmpty = refl
untried fate.TooLong = refl

undone_is : (g : Fate) → g ≢ fate.Done → is_done g ≡ false
undone_is fate.Done n = absurd (n refl)
undone_is fate.Failed n = refl
undone_is fate.Conflict n = refl
undone_is fate.Skipped n = refl
undone_is fate.ParentFailed n = refl
undone_is fate.Changed n = refl
undone_is fate.NotEmpty n = refl
undone_is fate.TooLong n = refl

not_none : (o : Option Stat) → is_some o ≡ true → is_none o ≡ false
not_none None h = absurd (false≢true h)
not_none (Some stat) h = refl

kept_or : (f : Fate) → IsFailedOrChanged f → settled_by false f ≡ f
kept_or f (inl is) = ap (settled_by false) is ∙ sym is
kept_or f (inr is) = ap (settled_by false) is ∙ sym is

-- a refusal shows the fate that it means
pub refused : {S : Type 0} (gives : Writes S) (target : List ℕ) (w : Write) (x : WriteError) (before after : S) (r : Result Fate OutOfMemory) →
    gives before target w (Err x) after → (x ≡ write.Exists → IsWritten gives target asked.remove_file before) →
    IfOk r (λ f. refusal_means x ≡ Some f) → IfOk r (RefusalMeans gives target)
refused gives target w x before after (Err e) given exists means = tt
refused gives target w x before after (Ok f) given exists means =
    record { before = before; call = w; refusal = x; after = after; given = given; means = means; exists = exists }

-- a first refusal that is not for a node that is there
pub not_taken : {S : Type 0} (gives : Writes S) (target : List ℕ) (x : WriteError) (before : S) → is_taken x ≡ false → x ≡ write.Exists →
    IsWritten gives target asked.remove_file before
not_taken gives target x before off is = absurd (false≢true (sym off ∙ ap is_taken is))

pub written : {S : Type 0} (gives : Writes S) (target : List ℕ) (w : Write) (before after : S) → gives before target w (Ok tt) after →
    WasWritten gives target w
written gives target w before after given = record { after = after; written = record { before = before; given = given } }

pub not_done : (f : Fate) → is_done f ≡ false → f ≢ fate.Done
not_done f off is = false≢true (sym off ∙ ap is_done is)

pub mapped_ok : (P Q : Fate → Type 0) (r : Result Fate OutOfMemory) → ((f : Fate) → P f → Q f) → IfOk r P → IfOk r Q
mapped_ok P Q (Ok f) h p = h f p
mapped_ok P Q (Err e) h p = tt

module _ {R S : Type 0} (asks : Asks R) (gives : Writes S) (target : List ℕ) (e : Entry) where
  -- a refused write is why nothing is made
  pub refused_is : (k : Kind) (make : Write) (f : Fate) → RefusalMeans gives target f → ShowsPlaced asks gives target e k make f
  refused_is k make f h = inr (undone f (refusal_or h.refusal f h.means), inr (inr h))

  pub replaced_is : (k : Kind) (make : Write) (f : Fate) → ShowsReplaced gives target make f → ShowsPlaced asks gives target e k make f
  replaced_is k make f (inl done) = inl done
  replaced_is k make f (inr h) = refused_is k make f h

  -- the evidence why an old node is left there is why nothing is made
  pub left_is : (k : Kind) (make : Write) (f : Fate) → f ≢ fate.Done → ShowsLeft asks target e k f → ShowsPlaced asks gives target e k make f
  left_is k make f off shows = inr (off, by (shows off))
    where
      by : (LookMeans asks target k f ⊎ ((k ≡ kind.File) × ReadMeans asks e.path f)) → ShowsWhy asks gives target e k f
      by (inl h) = inl h
      by (inr h) = inr (inl h)

  -- the fate of an entry

  pub not_placed : (k : Kind) (make : Write) (f : Fate) → f ≢ fate.Done → ShowsPlaced asks gives target e k make f → ShowsFate asks gives target e k f
  not_placed k make f off (inl done) = absurd (off done.0)
  not_placed k make f off (inr why) = stopped why.0 why.1

  pub was_made : (k : Kind) (make : Write) (f : Fate) → is_done f ≡ true → ShowsPlaced asks gives target e k make f → WasWritten gives target make
  was_made k make f on (inl done) = done.1
  was_made k make f on (inr why) = absurd (why.0 (done_is f on))

  pub dir_placed : (f : Fate) → ShowsPlaced asks gives target e kind.Dir asked.make_dir f → ShowsFate asks gives target e kind.Dir f
  dir_placed f (inl done) = copied done.0 (inl done.1)
  dir_placed f (inr why) = stopped why.0 why.1

  pub dir_looked : (f : Fate) → LookMeans asks target kind.Dir f → ShowsFate asks gives target e kind.Dir f
  dir_looked f h = by (look_or kind.Dir h.told.answer f h.told.is_meant)
    where
      by : IsFailedOrChanged f ⊎ ((f ≡ fate.Done) ⊎ (f ≡ fate.Conflict)) → ShowsFate asks gives target e kind.Dir f
      by (inl off) = stopped (undone f off) (inl h)
      by (inr (inl is)) = copied is (inr (subst (LookMeans asks target kind.Dir) is h))
      by (inr (inr is)) = stopped (λ d. clash (sym is ∙ d)) (inl h)
        where
          clash : fate.Conflict ≡ fate.Done → ⊥
          clash c = cc

  pub file_is_filled : (f : Fate) → ShowsFilled asks gives e.path target (size_by e.stat) f → ShowsFate asks gives target e kind.File f
  file_is_filled f (inl done) = copied done.0 done.1
  file_is_filled f (inr (inl h)) = stopped (undone f (read_or h.answer f h.means)) (inr (inl (refl, h)))
  file_is_filled f (inr (inr h)) = stopped (undone f (refusal_or h.refusal f h.means)) (inr (inr h))

  pub link_placed : (text : List ℕ) (f : Fate) → e.target ≡ Some text → ShowsPlaced asks gives target e kind.Link (asked.make_link text) f →
      ShowsFate asks gives target e kind.Link f
  link_placed text f is (inl done) = copied done.0 (text, is, done.1)
  link_placed text f is (inr why) = stopped why.0 why.1

  pub link_is_spared : (f : Fate) → e.target ≡ None → ShowsSpared asks target f → ShowsFate asks gives target e kind.Link f
  link_is_spared f none (inl why) = stopped why.0 (inl why.1)
  link_is_spared f none (inr there) = untold there.0 refl none there.1

  -- a fate that a step by the entry's kind comes to may come to the entry
  pub may_copy : (stat : Stat) (k : Kind) (r : Result Fate OutOfMemory) → e.stat ≡ Some stat → stat.kind ≡ k →
      IfOk r (ShowsFate asks gives target e k) → IfOk r (MayCopy asks gives target e)
  may_copy stat k r is of_kind = mapped_ok (ShowsFate asks gives target e k) (MayCopy asks gives target e) r (λ f shows.
      inr (subst (Shows asks gives target e f) (sym is) (subst (λ k. ShowsFate asks gives target e k f) (sym of_kind) shows)))

  -- the fate that an item comes to is that of its entry

  kept : (k : Kind) (f : Fate) → ShowsFate asks gives target e k f → settled_by false f ≡ f
  kept k f (copied is shows) = ap (settled_by false) is ∙ sym is
  kept k f (untold is link none look) = ap (settled_by false) is ∙ sym is
  kept k f (stopped off (inl h)) = by (look_or k h.told.answer f h.told.is_meant)
    where
      by : IsFailedOrChanged f ⊎ ((f ≡ fate.Done) ⊎ (f ≡ fate.Conflict)) → settled_by false f ≡ f
      by (inl (inl is)) = ap (settled_by false) is ∙ sym is
      by (inl (inr is)) = ap (settled_by false) is ∙ sym is
      by (inr (inl is)) = ap (settled_by false) is ∙ sym is
      by (inr (inr is)) = ap (settled_by false) is ∙ sym is
  kept k f (stopped off (inr (inl h))) = kept_or f (read_or h.1.answer f h.1.means)
  kept k f (stopped off (inr (inr h))) = kept_or f (refusal_or h.refusal f h.means)

  -- a row that was tried has what shows its fate
  pub tried_shows : (f g : Fate) → is_some e.stat ≡ true → MayCopy asks gives target e g → f ≡ settled e g → is_tried f ≡ true →
      Shows asks gives target e f e.stat
  tried_shows f g has (inl passed) is on = absurd (other (is_other e) refl)
    where
      other : (b : Bool) → is_other e ≡ b → ⊥
      other true o = false≢true (sym (ap is_tried (is ∙ ap (λ b. settled_by b g) o) ∙ untried g) ∙ on)
      other false o = false≢true (sym (or_from (is_none e.stat) (is_other e) (not_none e.stat has) o) ∙ passed.0)
  tried_shows f g has (inr shows) is on = by e.stat shows
    where
      by : (o : Option Stat) → Shows asks gives target e g o → Shows asks gives target e f o
      by None h = h
      by (Some stat) h = subst (ShowsFate asks gives target e stat.kind) (sym (is ∙ plain (is_other e) refl)) h
        where
          plain : (b : Bool) → is_other e ≡ b → settled e g ≡ g
          plain false o = ap (λ b. settled_by b g) o ∙ kept stat.kind g h
          plain true o = absurd (false≢true (sym (ap is_tried (is ∙ ap (λ b. settled_by b g) o) ∙ untried g) ∙ on))

  -- no item is odd
  even : (g : Fate) → MayCopy asks gives target e g → is_odd e g ≡ false
  even g (inl passed) = ap (λ f. is_done f && (is_other e || is_untold e)) passed.1
  even g (inr shows) = by e.stat refl shows
    where
      by : (o : Option Stat) → e.stat ≡ o → Shows asks gives target e g o → is_odd e g ≡ false
      by None s h = absurd h
      by (Some stat) s (stopped off why) = ap (λ b. b && (is_other e || is_untold e)) (undone_is g off)
      by (Some stat) s (untold is link none look) = ap (λ f. is_done f && (is_other e || is_untold e)) is
      by (Some stat) s (copied is shows) = ap (λ f. is_done f && (is_other e || is_untold e)) is ∙ told stat.kind refl shows
        where
          told : (k : Kind) → stat.kind ≡ k → ShowsCopy asks gives target e k → (is_other e || is_untold e) ≡ false
          told kind.Dir k shows = ap (λ o. is_of kind.Other o || (is_of kind.Link o && is_none e.target)) s
              ∙ ap (λ k. is_kind kind.Other k || (is_kind kind.Link k && is_none e.target)) k
          told kind.File k shows = ap (λ o. is_of kind.Other o || (is_of kind.Link o && is_none e.target)) s
              ∙ ap (λ k. is_kind kind.Other k || (is_kind kind.Link k && is_none e.target)) k
          told kind.Link k shows = ap (λ o. is_of kind.Other o || (is_of kind.Link o && is_none e.target)) s
              ∙ ap (λ k. is_kind kind.Other k || (is_kind kind.Link k && is_none e.target)) k ∙ ap is_none shows.1
          told kind.Other k shows = absurd shows

-- all entries

module _ {R S : Type 0} (asks : Asks R) (gives : Writes S) (pairs : List Pair) where
  -- where each item has a fate that may come to it, none is odd
  pub all_even : (marks : List Bool) (es : List Entry) (outs : List Fate) → length outs ≡ length (items_by pairs marks es) →
      AllMayCopy asks gives (items_by pairs marks es) outs → any_odd marks es outs ≡ false
  all_even [] es outs len all = refl
  all_even (m ∷ marks) [] outs len all = refl
  all_even (true ∷ marks) (e ∷ es) [] len all = absurd (omega (arith, len))
  all_even (true ∷ marks) (e ∷ es) (g ∷ outs) len all =
      or_from (is_odd e g) (any_odd marks es outs) (here g refl)
      (all_even marks es outs (omega (arith, len)) (λ k x f at has. all (suc k) x f at has))
    where
      here : (f : Fate) → f ≡ g → is_odd e g ≡ false
      here fate.ParentFailed is = ap (λ f. is_done f && (is_other e || is_untold e)) (sym is)
      here fate.Done is = even asks gives (target_of pairs e.path) e g (all 0 (item_of pairs e) g refl refl (λ n. clash (is ∙ n)))
        where
          clash : fate.Done ≡ fate.ParentFailed → ⊥
          clash n = cc
      here fate.Failed is = ap (λ f. is_done f && (is_other e || is_untold e)) (sym is)
      here fate.Conflict is = ap (λ f. is_done f && (is_other e || is_untold e)) (sym is)
      here fate.Skipped is = ap (λ f. is_done f && (is_other e || is_untold e)) (sym is)
      here fate.Changed is = ap (λ f. is_done f && (is_other e || is_untold e)) (sym is)
      here fate.NotEmpty is = ap (λ f. is_done f && (is_other e || is_untold e)) (sym is)
      here fate.TooLong is = ap (λ f. is_done f && (is_other e || is_untold e)) (sym is)
  all_even (false ∷ marks) (e ∷ es) outs len all = all_even marks es outs len all

  -- each row that was tried has what shows its fate
  shows_row : (rows : List (List ℕ × Fate)) (items : List Item) (outs : List Fate) →
      ((k : ℕ) (x : Item) → slice_get items k ≡ Some x → is_some x.entry.stat ≡ true) →
      AllMayCopy asks gives items outs → (e : Entry) (f : Fate) → Comes pairs rows items outs e f → is_tried f ≡ true →
      Shows asks gives (target_of pairs e.path) e f e.stat
  shows_row rows items outs stats all e f (long now room is) on = absurd (false≢true (sym (ap is_tried is) ∙ on))
  shows_row rows items outs stats all e f (under k at has now is) on = absurd (false≢true (sym (ap is_tried is) ∙ on))
  shows_row rows items outs stats all e f (tried k g at has off odd now is) on =
      tried_shows asks gives (target_of pairs e.path) e f g (stats k (item_of pairs e) at) (all k (item_of pairs e) g at has off) is on

  module _ {G : Type 0} (own : Writes G) (area : G → Area) (count : G → ℕ) where
    abbrev RowShown : Row → Type 0
    RowShown one = HasCause asks gives own area count pairs one.0 one.1.1

    pub all_shown : (rows : List (List ℕ × Fate)) (items : List Item) (outs : List Fate) →
        ((k : ℕ) (x : Item) → slice_get items k ≡ Some x → is_some x.entry.stat ≡ true) → AllMayCopy asks gives items outs → (ones : List Row) →
        AllByRecursion (λ (one : Row). Comes pairs rows items outs one.0 one.1.1) ones → All RowShown ones
    all_shown rows items outs stats all ones h =
        All-from_recursion RowShown ones
        (weaker (λ (one : Row). Comes pairs rows items outs one.0 one.1.1) RowShown ones
        (λ one c on. inl (shows_row rows items outs stats all one.0 one.1.1 c on)) h)

-- each item is of an entry that has a stat

stat_here : (pairs : List Pair) (e : Entry) (items : List Item) → is_some e.stat ≡ true →
    ((k : ℕ) (x : Item) → slice_get items k ≡ Some x → is_some x.entry.stat ≡ true) → (k : ℕ) (x : Item) →
    slice_get (item_of pairs e ∷ items) k ≡ Some x → is_some x.entry.stat ≡ true
stat_here pairs e items has rest zero x at = ap (λ (y : Item). is_some y.entry.stat) (sym (same_some (item_of pairs e) x at)) ∙ has
stat_here pairs e items has rest (suc k) x at = rest k x at

no_items : (k : ℕ) (x : Item) → slice_get [] k ≡ Some x → is_some x.entry.stat ≡ true
no_items zero x e = cc
no_items (suc k) x e = cc

pub items_have_stats : (pairs : List Pair) (list : List Entry) (k : ℕ) (x : Item) → slice_get (items_of pairs list) k ≡ Some x →
    is_some x.entry.stat ≡ true
items_have_stats pairs [] k x at = no_items k x at
items_have_stats pairs (e ∷ list) k x at =
    elim (is_some e.stat) as (λ b. is_some e.stat ≡ b →
    slice_get (map (item_of pairs) (filter (has_room pairs) (cond b (e ∷ treated list) (treated list)))) k ≡ Some x → is_some x.entry.stat ≡ true) [
      | false ↦ λ _ at. items_have_stats pairs list k x at
      | true ↦ λ has at. elim (has_room pairs e) as (λ b.
          slice_get (map (item_of pairs) (cond b (e ∷ filter (has_room pairs) (treated list)) (filter (has_room pairs) (treated list)))) k ≡ Some x →
          is_some x.entry.stat ≡ true) [
            | false ↦ λ at. items_have_stats pairs list k x at
            | true ↦ λ at. stat_here pairs e (items_of pairs list) has (λ k x at. items_have_stats pairs list k x at) k x at
          ] at
    ] refl at
