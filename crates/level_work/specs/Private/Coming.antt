-- The fates of a share, and those of a level, that may come where its actors act. Our own.
use Rattle.std.specs.Prelude.{◌≡◌, ◌≢◌, ℕ, true, List, [], ◌∷◌, ◌++◌, Option, Some, slice_get}
use Rattle.path_text.specs.Path.{level_of}
use Rattle.outside.specs.Tree.{Files}
use Rattle.outside.specs.Writes.{Area}
use Rattle.level_work.specs.Acts.{Deed}
use Rattle.level_work.specs.Chain.{is_level_done}
use Rattle.level_work.specs.Fates.{ComesAt, MayCome, place_of}
use Rattle.level_work.specs.Private.Lots.{IsAt, HasWorked}
use Rattle.level_work.specs.declared.items.Item.{Item}
use Rattle.level_work.specs.declared.items.Fate.{Fate}
use Rattle.level_work.specs.declared.items.Fate.TheVariants as fate
use Rattle.level_work.specs.declared.items.Order.{Order}
use Rattle.level_work.specs.declared.lots.Lot.{Lot}

module _ {A P Who : Type 0} (who : A → Who) (may_come : MayCome Who) where
  -- one fate more, of the item at place j, that may come where the actor acts
  pub record OneCame (items : List Item) (j : ℕ) (lot lot' : Lot A P) : Type 0 where
    pub now : Fate
    pub fates : lot'.fates.items ≡ lot.fates.items ++ now ∷ []
    pub may : (x : Item) → IsAt items lot.places.items j x → may_come (who lot.actor) x.path x.entry now

  -- a share before its work and after some of it
  pub record HaveCome (items : List Item) (lot lot' : Lot A P) : Type 0 where
    pub same : who lot'.actor ≡ who lot.actor
    pub came : (j : ℕ) (x : Item) (f : Fate) → IsAt items lot.places.items j x → slice_get lot'.fates.items j ≡ Some f
        → may_come (who lot.actor) x.path x.entry f

module _ {A P D Who : Type 0} (tree : Option P → Option Files) (area : Option P → Area) (part_count : Option P → ℕ) (plain : A → D) (count : A → ℕ)
    (deed : D → Deed) (who : A → Who) (may_come : MayCome Who) where
  -- a share before its work and after it, with fates that may come
  pub record IsWorked (items : List Item) (lot lot' : Lot A P) : Type 0 where
    pub worked : HasWorked tree area part_count plain count deed items lot lot'
    pub came : HaveCome who may_come items lot lot'

module _ {Who : Type 0} (may_come : MayCome Who) (actors : List Who) (items : List Item) (fates : List Fate) where
  -- the item at place k of the list, which is on this level, has a fate that may come where the actor acts to which it goes
  abbrev pub Came : ℕ → ℕ → Item → Type 0
  Came level k x = (f : Fate) → slice_get fates k ≡ Some f → f ≢ fate.ParentFailed → ComesAt may_come actors (place_of items level k) x f

  -- the items of one level
  abbrev pub LevelCame : ℕ → Type 0
  LevelCame level = (k : ℕ) (x : Item) → slice_get items k ≡ Some x → level_of x.path ≡ level → Came level k x

  -- the items of the levels that are done
  abbrev pub CameSofar : Order → ℕ → Type 0
  CameSofar o t = (k : ℕ) (x : Item) → slice_get items k ≡ Some x → is_level_done o t (level_of x.path) ≡ true → Came (level_of x.path) k x
