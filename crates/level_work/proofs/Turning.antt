-- All lots at work, level after level.
use Rattle.level_work.proofs.Prelude.{◌≡◌, ℕ, suc, ◌+◌, ◌<◌, ◌≤◌, true, false, cond, List, [], ◌∷◌, length, map, Option, Some, None, IfSome, refl, ap, ◌∙◌, sym}
use Rattle.level_work.proofs.Prelude.{subst, arith, is_some, slice_get, false≢true, false_from_ne_true, slice_get_within, length-map, sum_by-cons, count_by}
use Rattle.level_work.proofs.Prelude.{level_of, Files, Area, nothing_lent, Deed, Alike, AllShow, MakesDirs, NoneFell, BlamedAll, is_failed, AreItems, StandIn}
use Rattle.level_work.proofs.Prelude.{ParentsFail, Acted, SameButItems, AllBelow, OneLevel, is_level_done, mark_at, level_at, CanStep, TellsLevel, SameButLevel}
use Rattle.level_work.proofs.Prelude.{Ran, AtHome, BlamedMore, SameActors, ShowAll, AreOnLevel, Knows, has_path, Notes, Turned, Item, Fate, Order, Lot}
use Rattle.level_work.specs.declared.items.Fate.TheVariants as fate
use Rattle.level_work.specs.declared.items.Order.TheVariants as order
use Rattle.level_work.proofs.Crewed.{map_get}
use Rattle.level_work.proofs.Running.{next_at, ran_none, can_step, ran_more, ran_told, ran_acted, ran_lost}
use Rattle.level_work.proofs.Stages.{not_here, still_done, now_done}
use Rattle.level_work.proofs.Stores.{knows_more}
use Rattle.level_work.proofs.Working.{same_some, some_at}

-- what the actors show, whether or not they are in lots
pub of_actors : {A P X : Type 0} (f : A → X) (lots : List (Lot A P)) → map f (map (λ (l : Lot A P). l.actor) lots) ≡ map (λ (l : Lot A P). f l.actor) lots
of_actors f [] = refl
of_actors f (lot ∷ lots) = ap (λ r. f lot.actor ∷ r) (of_actors f lots)

-- those that were hired into lots, of which these were lent
pub of_hired : {A P X : Type 0} (f : A → X) (actors : List A) (lots lent : List (Lot A P)) → map (λ (l : Lot A P). l.actor) lots ≡ actors → lent ≡ lots →
    map f actors ≡ map (λ (l : Lot A P). f l.actor) lent
of_hired f actors lots lent hired same = ap (map f) (sym hired) ∙ of_actors f lots ∙ ap (map (λ (l : Lot _ _). f l.actor)) (sym same)

pub shows_all : {A P D : Type 0} (plain : A → D) (lots : List (Lot A P)) (d : D) → AllShow d (map (λ (l : Lot A P). plain l.actor) lots)
    → ShowAll plain d (map (λ (l : Lot A P). l.actor) lots)
shows_all plain lots d show i a at = show i (plain a) (ap (λ xs. slice_get xs i) (sym (of_actors plain lots)) ∙ map_get plain (map (λ l. l.actor) lots) i a at)

none_failed : (fates : List Fate) → ((k : ℕ) (f : Fate) → slice_get fates k ≡ Some f → f ≡ fate.Done) → count_by is_failed fates ≡ 0
none_failed [] h = refl
none_failed (f ∷ fates) h = let e = ap {B = ℕ} (λ x. cond (is_failed x) 1 0) (h 0 f refl) in
    omega (arith, sum_by-cons (λ x. cond (is_failed x) 1 0) f fates, e, none_failed fates (λ k g at. h (suc k) g at))

blamed_on : (l m n g g' g'' : ℕ) (c c' c'' : List ℕ) → length c'' ≡ length c' → BlamedMore l m g c g' c' → BlamedMore m n g' c' g'' c''
    → ((i k k' : ℕ) → slice_get c i ≡ Some k → slice_get c'' i ≡ Some k' → k ≤ k') → BlamedMore l n g c g'' c''
blamed_on l m n g g' g'' c c' c'' len x y kept = record {
  ground_kept = omega (arith, x.ground_kept, y.ground_kept);
  kept = kept;
  rose = λ low none. omega (
    arith,
    x.rose (omega (arith, low, y.ground_kept))
        (λ i k at. let z = some_at c'' i (omega (arith, len, slice_get_within c' i k at)) in
        omega (arith, y.kept i k z.0 at z.1, none i z.0 z.1)),
    y.rose low none,
  );
}

module _ {A P D : Type 0} (plain : A → D) (count : A → ℕ) where
  pub same_length : (lots now : List (Lot A P)) → SameActors plain count lots now → length now ≡ length lots
  same_length lots now s = omega (arith, ap length s.plains, length-map now (λ l. plain l.actor), length-map lots (λ l. plain l.actor))

  same_counts : (lots now : List (Lot A P)) → SameActors plain count lots now
      → length (map (λ (l : Lot A P). count l.actor) now) ≡ length (map (λ (l : Lot A P). count l.actor) lots)
  same_counts lots now s = omega (arith, same_length lots now s, length-map now (λ l. count l.actor), length-map lots (λ l. count l.actor))

  pub no_work : (lots : List (Lot A P)) → SameActors plain count lots lots
  no_work lots = record { plains = refl; counts = λ i k k' a b. let e = same_some k k' (sym a ∙ b) in omega (arith, e) }

  pub actors_on : (lots now next : List (Lot A P)) → SameActors plain count lots now → SameActors plain count now next → SameActors plain count lots next
  actors_on lots now next x y = record {
    plains = y.plains ∙ x.plains;
    counts = λ i k k' a b.
        let z = some_at (map (λ (l : Lot A P). count l.actor) now) i
        (omega (arith, same_counts now next y, slice_get_within (map (λ (l : Lot A P). count l.actor) next) i k' b)) in
        omega (arith, x.counts i k z.0 a z.1, y.counts i z.0 k' z.1 b);
  }

  pub shown : (lots : List (Lot A P)) → 0 < length lots → Alike (map (λ (l : Lot A P). plain l.actor) lots) → (d : D)
      × AllShow d (map (λ (l : Lot A P). plain l.actor) lots)
  shown lots some alike =
      let first = some_at lots 0 some in
      (plain first.0.actor, λ i e at. alike i 0 e (plain first.0.actor) at (map_get (λ (l : Lot A P). plain l.actor) lots 0 first.0 first.1))

  pub none_fell : (lots now : List (Lot A P)) → SameActors plain count lots now
      → NoneFell (map (λ (l : Lot A P). count l.actor) lots) (map (λ (l : Lot A P). count l.actor) now)
  none_fell lots now s = record { len = same_counts lots now s; kept = s.counts }

pub all_blamed : (n g g' : ℕ) (c c' : List ℕ) → BlamedMore 0 n g c g' c' → BlamedAll n g c g' c'
all_blamed n g g' c c' b = record { rose = λ low none. omega (arith, b.rose low none) }

-- a level that is next is not done
next_fresh : (o : Order) (top turn m : ℕ) → turn < top → m ≡ level_at o top turn → is_level_done o (mark_at o top turn) m ≡ false
next_fresh o top turn m l e =
    false_from_ne_true (is_level_done o (mark_at o top turn) m)
    (λ done. not_here o (mark_at o top turn) (level_at o top turn) (mark_at o top (turn + 1)) m (next_at o top turn l) done e)

module _ {A P D : Type 0} (plain : A → D) (count : A → ℕ) (deed : D → Deed) (o : Order) (top : ℕ) (items : List Item) where
  pub turned_none : (lots : List (Lot A P)) (fates : List Fate) (paths : List (List ℕ)) (a : Area) (t : Option Files) (g : ℕ)
      → a ≡ nothing_lent → AtHome lots → AllBelow top items → length fates ≡ length items
      → ((k : ℕ) (f : Fate) → slice_get fates k ≡ Some f → f ≡ fate.Done) → paths ≡ [] →
      Turned plain count deed o top 0 items lots lots fates paths a t t g g
  turned_none lots fates paths a t g area home below len done empty = record {
    area = area;
    home = home;
    actors = no_work plain count lots;
    kept = omega arith;
    ran = λ d show. ran_none (deed d) o top items fates t below len;
    fresh = λ k x f at has off. done k f has;
    knows = knows o;
    blamed = record { ground_kept = omega arith; kept = (no_work plain count lots).counts; rose = λ low none. omega (arith, none_failed fates done) };
  }
    where
      knows : (o : Order) → Knows o items fates paths
      knows order.TopDown = record {
        sound = λ q e. absurd (false≢true (ap (λ ps. has_path ps q) (sym empty) ∙ e));
        complete = λ k x f at is not. absurd (not (done k f is));
      }
      knows order.BottomUp = tt

module _ {A P D : Type 0} {plain : A → D} {count : A → ℕ} {deed : D → Deed} {o : Order} {top turn g0 g : ℕ} {items : List Item}
    {lots now : List (Lot A P)} {fates : List Fate} {paths : List (List ℕ)} {a : Area} {t0 t : Option Files}
    (v : Turned plain count deed o top turn items lots now fates paths a t0 t g0 g)
    (some : 0 < length lots) (alike : Alike (map (λ (l : Lot A P). plain l.actor) lots)) where
  of_first : Ran (deed (shown plain count lots some alike).0) o top turn items fates t0 t
  of_first = v.ran (shown plain count lots some alike).0 (shown plain count lots some alike).1

  pub turned_len : length fates ≡ length items
  turned_len = of_first.len

  pub turned_tells : is_some t ≡ is_some t0
  turned_tells = of_first.tells

  pub turned_step : turn < top → AreItems items → IfSome t0 (StandIn o items)
      → ((d : D) → AllShow d (map (λ (l : Lot A P). plain l.actor) lots) → IfSome t0 (MakesDirs o (deed d) items))
      → IfSome t (CanStep o (level_at o top turn) items fates)
  turned_step l are stand dirs = let d = shown plain count lots some alike in
      can_step (deed d.0) o top turn items fates t0 t l are stand (dirs d.0 d.1) (v.ran d.0 d.1)

  pub turned_told : top ≤ turn → turn ≤ top → AllBelow top items → ParentsFail o items fates
  turned_told l m below = ran_told (deed (shown plain count lots some alike).0) o top turn items fates t0 t (omega (arith, l, m)) below of_first

  pub turned_acted : top ≤ turn → turn ≤ top → AllBelow top items → (d : D) → AllShow d (map (λ (l : Lot A P). plain l.actor) lots)
      → IfSome t0 (λ before. IfSome t (Acted (deed d) o items fates before))
  turned_acted l m below d show = ran_acted (deed d) o top turn items fates t0 t (omega (arith, l, m)) below (v.ran d show)

  module _ (level : ℕ) (next : Option Files) (now' : List (Lot A P)) (fates' : List Fate) (g' : ℕ) (is : level ≡ level_at o top turn) (l : turn < top) where
    pub turned_lost : IfSome t (λ old. IfSome next (SameButLevel level items old)) → IfSome t0 (λ before. IfSome next (SameButItems items before))
    turned_lost h = ran_lost (deed (shown plain count lots some alike).0) o top turn level items fates t0 t next of_first h

    only_level : (told : (d : D) → AllShow d (map (λ (l : Lot A P). plain l.actor) now)
        → IfSome t (λ old. IfSome next (OneLevel (deed d) level items fates' old)))
        → IfSome t (λ old. IfSome next (SameButLevel level items old))
    only_level told = let d = shown plain count lots some alike in
        others (deed d.0) t next (told d.0 (subst (AllShow d.0) (sym v.actors.plains) d.1))
      where
        others : (e : Deed) (t next : Option Files) → IfSome t (λ old. IfSome next (OneLevel e level items fates' old))
            → IfSome t (λ old. IfSome next (SameButLevel level items old))
        others e None next h = tt
        others e (Some x) None h = tt
        others e (Some x) (Some y) h = h.others

    pub turned_stopped : ((d : D) → AllShow d (map (λ (l : Lot A P). plain l.actor) now)
        → IfSome t (λ old. IfSome next (OneLevel (deed d) level items fates' old)))
        → IfSome t0 (λ before. IfSome next (SameButItems items before))
    turned_stopped told = turned_lost (only_level told)

    pub turned_more : (places : List ℕ) (paths' : List (List ℕ)) (a' : Area) → AreItems items → a' ≡ nothing_lent → AtHome now'
        → SameActors plain count now now' → g ≤ g' → is_some next ≡ is_some t → TellsLevel o level items fates fates' →
        ((d : D) → AllShow d (map (λ (l : Lot A P). plain l.actor) now) → IfSome t (λ old. IfSome next (OneLevel (deed d) level items fates' old))) →
        BlamedMore (count_by is_failed fates) (count_by is_failed fates') g (map (λ (l : Lot A P). count l.actor) now) g'
        (map (λ (l : Lot A P). count l.actor) now') →
        AreOnLevel (length items) level items places → Notes o items fates' places paths paths'
        → Turned plain count deed o top (turn + 1) items lots now' fates' paths' a' t0 next g0 g'
    turned_more places paths' a' are area home actors up tells t' told blamed on notes = record {
      area = area;
      home = home;
      actors = actors_on plain count lots now now' v.actors actors;
      kept = omega (arith, v.kept, up);
      ran = λ d show. ran_more (deed d) o top turn items fates fates' t0 t next l are (subst (λ m. TellsLevel o m items fates fates') is t')
          (subst (λ m. IfSome t (λ old. IfSome next (OneLevel (deed d) m items fates' old))) is
          (told d (subst (AllShow d) (sym v.actors.plains) show))) tells (v.ran d show);
      fresh = fresh;
      knows = knows_more o level items places fates fates' paths paths' on
          (λ k x f at has lev. v.fresh k x f at has (next_fresh o top turn (level_of x.path) l (lev ∙ is))) t' turned_len v.knows notes;
      blamed = blamed_on _ _ _ _ _ _ _ _ _ (same_counts plain count now now' actors) v.blamed blamed
          (actors_on plain count lots now now' v.actors actors).counts;
    }
      where
        fresh : (k : ℕ) (x : Item) (f : Fate) → slice_get items k ≡ Some x → slice_get fates' k ≡ Some f
            → is_level_done o (mark_at o top (turn + 1)) (level_of x.path) ≡ false → f ≡ fate.Done
        fresh k x f at has off =
            let n = next_at o top turn l in
            v.fresh k x f at
            (sym (t'.others k x at (λ e.
            false≢true (sym off ∙ subst (λ m. is_level_done o (mark_at o top (turn + 1)) m ≡ true) (sym (e ∙ is))
            (now_done o (mark_at o top turn) (level_at o top turn) (mark_at o top (turn + 1)) n)))) ∙ has)
            (false_from_ne_true (is_level_done o (mark_at o top turn) (level_of x.path))
            (λ done. false≢true (sym off
            ∙ still_done o (mark_at o top turn) (level_at o top turn) (mark_at o top (turn + 1)) (level_of x.path) n done)))
