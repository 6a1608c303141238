-- Fates that may come where the actors act, for a share, a level and all levels.
use Rattle.level_work.proofs.Prelude.{◌≡◌, ◌⊎◌, inl, inr, ℕ, ◌+◌, ◌<◌, ◌%◌, true, List, [], length, map, Some, refl, ap, ◌∙◌, sym, subst, arith, slice_get}
use Rattle.level_work.proofs.Prelude.{slice_index_or, false≢true, length-map, slice_get_within, get_or_from_slice_get, level_of, AllBelow, is_level_done}
use Rattle.level_work.proofs.Prelude.{mark_at, level_at, ComesAt, EachMayCome, MayCome, place_of, FailsWith, OneCame, HaveCome, Came, LevelCame, CameSofar}
use Rattle.level_work.proofs.Prelude.{AreShares, Dealt, AreInTurn, AreOnLevel, IsAt, TellsLevel, Item, Fate, Order, Lot}
use Rattle.level_work.proofs.Actors.{worked_actors}
use Rattle.level_work.proofs.Crewed.{map_get}
use Rattle.level_work.proofs.Likes.{Like}
use Rattle.level_work.proofs.Running.{next_at, not_yet, at_last}
use Rattle.level_work.proofs.Stages.{Next, done_after, not_here}
use Rattle.level_work.proofs.Working.{get_more, same_some, some_at}

-- a share before its work, and after one act more
module _ {A P Who : Type 0} (who : A → Who) (may_come : MayCome Who) (items : List Item) where
  pub none_came : (lot : Lot A P) → lot.fates.items ≡ [] → HaveCome who may_come items lot lot
  none_came lot fresh = record { same = refl; came = λ j x f is e. absurd (none j f (subst (λ fs. slice_get fs j ≡ Some f) fresh e)) }
    where
      none : (j : ℕ) (f : Fate) → slice_get [] j ≡ Some f → ⊥
      none j f e = cc

  module _ (lot mid lot' : Lot A P) where
    pub one_more_came : (n : ℕ) → mid.places.items ≡ lot.places.items → length mid.fates.items ≡ n → who lot'.actor ≡ who mid.actor
        → HaveCome who may_come items lot mid → OneCame who may_come items n mid lot' → HaveCome who may_come items lot lot'
    one_more_came n places many same h one = record {
      same = same ∙ h.same;
      came = λ j x f is e. by j x f is (get_more mid.fates.items one.now j f (subst (λ fs. slice_get fs j ≡ Some f) one.fates e));
    }
      where
        by : (j : ℕ) (x : Item) (f : Fate) → IsAt items lot.places.items j x
            → (slice_get mid.fates.items j ≡ Some f) ⊎ ((j ≡ length mid.fates.items) × (one.now ≡ f)) → may_come (who lot.actor) x.path x.entry f
        by j x f is (inl old) = h.came j x f is old
        by j x f is (inr new) = subst (may_come (who lot.actor) x.path x.entry) new.1
            (subst (λ w. may_come w x.path x.entry one.now) h.same
            (one.may x (subst (λ ps. IsAt items ps n x) (sym places) (subst (λ k. IsAt items lot.places.items k x) (new.0 ∙ many) is))))

    pub none_more_came : lot'.fates.items ≡ mid.fates.items → who lot'.actor ≡ who mid.actor → HaveCome who may_come items lot mid
        → HaveCome who may_come items lot (record lot' { lost = true })
    none_more_came fates same h = record {
      same = same ∙ h.same;
      came = λ j x f is e. h.came j x f is (subst (λ fs. slice_get fs j ≡ Some f) fates e);
    }

  -- the share i before its work
  record Before (lots : List (Lot A P)) (i : ℕ) (lot' : Lot A P) : Type 0 where
    lot : Lot A P
    here : slice_get lots i ≡ Some lot
    did : HaveCome who may_come items lot lot'

  module _ (lots lots' : List (Lot A P)) (len : length lots' ≡ length lots)
      (did : (i : ℕ) (d : Lot A P) → i < length lots → HaveCome who may_come items (slice_index_or lots i d) (slice_index_or lots' i d)) where
    before : (i : ℕ) (lot' : Lot A P) → slice_get lots' i ≡ Some lot' → Before lots i lot'
    before i lot' here' =
        let l : i < length lots = omega (arith, len, slice_get_within lots' i lot' here') in
        let x = some_at lots i l in
        record {
          lot = x.0;
          here = x.1;
          did = subst (λ (y : Lot A P). HaveCome who may_come items x.0 y) (get_or_from_slice_get lots' i lot' lot' here')
              (subst (λ (y : Lot A P). HaveCome who may_come items y (slice_index_or lots' i lot')) (get_or_from_slice_get lots i x.0 lot' x.1)
              (did i lot' l));
        }

    pub same_who : map (λ (l : Lot A P). who l.actor) lots' ≡ map (λ (l : Lot A P). who l.actor) lots
    same_who = (worked_actors who (λ _. 0) lots lots' len (λ i d l. ((did i d l).same, omega arith))).plains

    -- the items of the level, by the shares that were dealt in turn
    pub level_came : (o : Order) (level : ℕ) (old new : List Fate) (places : List ℕ) → AreOnLevel (length items) level items places
        → AreInTurn places lots → Like lots lots' → AreShares o level items old lots' → TellsLevel o level items old new
        → ((k : ℕ) (d : Dealt lots' k) → slice_get new k ≡ slice_get d.lot.fates.items d.place)
        → LevelCame may_come (map (λ (l : Lot A P). who l.actor) lots) items new level
    level_came o level old new places on turn like shares told stored k x at lev f has not = by (shares.all k x at lev)
      where
        by : FailsWith o items old x ⊎ Dealt lots' k → ComesAt may_come (map (λ (y : Lot A P). who y.actor) lots) (place_of items level k) x f
        by (inl fails) = absurd (not ((told.failed k x f at has lev).1 fails))
        by (inr d) =
            let b = before d.share d.lot d.is_lot in
            let l = like d.share d.lot d.is_lot in
            let one : l.it ≡ b.lot = same_some l.it b.lot (sym l.here ∙ b.here) in
            let there : slice_get b.lot.places.items d.place ≡ Some k =
            ap (λ (y : Lot A P). slice_get y.places.items d.place) (sym one) ∙ ap (λ ps. slice_get ps d.place) l.same ∙ d.at in
            let a = on.all k x (slice_get_within items k x at) at lev in
            let share : d.share ≡ a.place % length lots =
            turn d.share d.place k a.place (record { lot = b.lot; is_lot = b.here; at = there }) a.at in
            let goes : d.share ≡ place_of items level k % length (map (λ (y : Lot A P). who y.actor) lots) =
            share ∙ ap (λ t. t % length lots) (on.turn a.place k a.at)
            ∙ ap (λ n. place_of items level k % n) (sym (length-map lots (λ (y : Lot A P). who y.actor))) in
            record {
              who = who b.lot.actor;
              acts = ap (slice_get (map (λ (y : Lot A P). who y.actor) lots)) (sym goes) ∙ map_get (λ (y : Lot A P). who y.actor) lots d.share b.lot b.here;
              may = b.did.came d.place x f (record { place = k; at = there; is = at }) (sym (stored k d) ∙ has);
            }

pub in_turn_over : {A P : Type 0} (places : List ℕ) (lots lots' : List (Lot A P)) → length lots' ≡ length lots → Like lots lots'
    → AreInTurn places lots → AreInTurn places lots'
in_turn_over places lots lots' len like turn i j k t e at = let l = like i e.lot e.is_lot in
    turn i j k t (record { lot = l.it; is_lot = l.here; at = ap (λ ps. slice_get ps j) l.same ∙ e.at }) at ∙ ap (λ n. t % n) (sym len)

-- one level after the other
module _ {Who : Type 0} (may_come : MayCome Who) (actors : List Who) (items : List Item) (o : Order) (top : ℕ) (below : AllBelow top items) where
  pub none_level_came : (fates : List Fate) → CameSofar may_come actors items fates o (mark_at o top 0)
  none_level_came fates k x at done = absurd (false≢true (sym (not_yet o top (level_of x.path) (below k x at)) ∙ done))

  pub one_level_came : (turn level : ℕ) (old new : List Fate) → level ≡ level_at o top turn → turn < top → TellsLevel o level items old new
      → LevelCame may_come actors items new level → CameSofar may_come actors items old o (mark_at o top turn)
      → CameSofar may_come actors items new o (mark_at o top (turn + 1))
  one_level_came turn level old new is l told came sofar k x at done =
      by (done_after o (mark_at o top turn) (level_at o top turn) (mark_at o top (turn + 1)) (level_of x.path) next done)
    where
      next : Next o (mark_at o top turn) (level_at o top turn) (mark_at o top (turn + 1))
      next = next_at o top turn l

      by : (level_of x.path ≡ level_at o top turn) ⊎ (is_level_done o (mark_at o top turn) (level_of x.path) ≡ true)
          → Came may_come actors items new (level_of x.path) k x
      by (inl here) = subst (λ m. Came may_come actors items new m k x) (is ∙ sym here) (came k x at (here ∙ sym is))
      by (inr past) = λ f has. sofar k x at past f
          (sym (told.others k x at
          (λ e. not_here o (mark_at o top turn) (level_at o top turn) (mark_at o top (turn + 1)) (level_of x.path) next past (e ∙ is))) ∙ has)

  pub all_levels_came : (turn : ℕ) (fates : List Fate) → turn ≡ top → CameSofar may_come actors items fates o (mark_at o top turn)
      → EachMayCome may_come actors items fates
  all_levels_came turn fates e sofar k x f at has =
      sofar k x at (subst (λ t. is_level_done o (mark_at o top t) (level_of x.path) ≡ true) (sym e) (at_last o top (level_of x.path) (below k x at))) f has
