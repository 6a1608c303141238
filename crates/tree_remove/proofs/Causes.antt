-- What shows the fate of each removal.
use Rattle.tree_remove.proofs.Prelude.{◌≡◌, ◌≢◌, ◌∙◌, ℕ, ◌<◌, List, length, map, get_or, Some, IfOk, ap, sym, subst, arith, slice_get, length-map, get_or-map}
use Rattle.tree_remove.proofs.Prelude.{slice_get-get_or, length-zip, get_or-zip, zip, Result, Ok, Err, OutOfMemory, Writes, WriteError, Entry, ParentsFail}
use Rattle.tree_remove.proofs.Prelude.{Item, Fate, item_of, items_of, HaveCauses, ShowsFate, fate_told, removal_of}
use Rattle.level_work.specs.declared.items.Fate.TheVariants as fate
use Rattle.level_work.specs.declared.items.Order.TheVariants as order

-- a refusal shows the fate that it means
pub shown : {S : Type 0} (gives : Writes S) (path : List ℕ) (e : Entry) (x : WriteError) (before after : S) (r : Result Fate OutOfMemory)
    → gives before path (removal_of e) (Err x) after → IfOk r (λ f. fate_told (Err x) ≡ Some f) → IfOk r (ShowsFate gives path e)
shown gives path e x before after (Ok f) given means = record { before = before; answer = Err x; after = after; given = given; means = means }
shown gives path e x before after (Err o) given means = tt

-- each item has what shows its fate
abbrev pub AllShow : {S : Type 0} → Writes S → List Item → List Fate → Type 0
AllShow gives items fates =
    (k : ℕ) (x : Item) (f : Fate) → slice_get items k ≡ Some x → slice_get fates k ≡ Some f → f ≢ fate.ParentFailed → ShowsFate gives x.path x.entry f

module _ {S : Type 0} (gives : Writes S) (es : List Entry) (fates : List Fate) where
  pub causes : length fates ≡ length (items_of es) → ParentsFail order.BottomUp (items_of es) fates
      → AllShow gives (items_of es) fates → HaveCauses gives es (zip (map (λ x. x.path) (items_of es)) fates)
  causes len parents each k d l =
      let here : k < length es = omega (arith, l, length-zip es rows) in
      let there : k < length rows = omega (arith, l, length-zip es rows) in
      let item : k < length (items_of es) = omega (arith, here, length-map es item_of) in
      let path : k < length (map (λ (x : Item). x.path) (items_of es)) = omega (arith, item, length-map (items_of es) (λ (x : Item). x.path)) in
      let some : k < length fates = omega (arith, item, len) in
      let e = get_or es k d.0 in
      let f = get_or fates k d.1.1 in
      let has = slice_get-get_or fates k d.1.1 some in
      let at : slice_get (items_of es) k ≡ Some (item_of e) =
      slice_get-get_or (items_of es) k (item_of d.0) item ∙ ap Some (get_or-map item_of es k d.0 (item_of d.0) here) in
      let row : get_or rows k d.1 ≡ (get_or (map (λ (x : Item). x.path) (items_of es)) k d.1.0, f) =
      get_or-zip (map (λ (x : Item). x.path) (items_of es)) fates k d.1 path some in
      let one : get_or (zip es rows) k d ≡ (e, (get_or (map (λ (x : Item). x.path) (items_of es)) k d.1.0, f)) =
      get_or-zip es rows k d here there ∙ ap (λ r. (e, r)) row in
      subst (λ one. ShowsFate gives one.0.path one.0 one.1.1) (sym one)
      (each k (item_of e) f at has (λ no. (parents k (item_of e) f at has).0 no))
    where
      rows : List (List ℕ × Fate)
      rows = zip (map (λ (x : Item). x.path) (items_of es)) fates
