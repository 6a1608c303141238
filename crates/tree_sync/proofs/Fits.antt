-- The wanting entries fit the tree that the removal left: they tell it, and each target stands in a directory, or in a target.
use Rattle.tree_sync.proofs.Prelude.{◌≡◌, ℕ, Bool, true, false, not, cond, ◌||◌, ◌&&◌, List, [], ◌∷◌, filter, Option, Some, None, IfSome, refl, ap, ◌∙◌, sym}
use Rattle.tree_sync.proofs.Prelude.{subst, arith, nat_eq, is_some, get, All, Contains, option_map, pointwise, bytes_decides, false≢true, and_parts, and_from}
use Rattle.tree_sync.proofs.Prelude.{All-contains, All-filter, Any-from_list_any, below_of, grafted, is_under, is_within, refusal, parent_of, grafted_itself}
use Rattle.tree_sync.proofs.Prelude.{parent_moves_too, below_made, graft_undoes_below, itself, under_within, Files, Node, Body, dir, file, link, other, IsTree}
use Rattle.tree_sync.proofs.Prelude.{NodesHavePaths, is_dir, is_dir_body, kind_of, link_at, stat_of, Stat, Entry, is_of, Row, Findings, Side, side, Pair}
use Rattle.tree_sync.proofs.Prelude.{FitsTree, is_target, target_of, targets_of, treated, agrees, copied_of, has_parent, is_both, is_common, is_copied}
use Rattle.tree_sync.proofs.Prelude.{is_there, row_at}
use Rattle.outside.specs.declared.trees.Kind.TheVariants as kind
use Rattle.tree_sync.proofs.Apart.{goes_to, not_chosen, over_off, source_off}
use Rattle.tree_sync.proofs.Both.{Removal, have_both, kind_eq}
use Rattle.tree_sync.proofs.Members.{in_kept, in_map, of_kept, some_on}
use Rattle.tree_sync.proofs.Sided.{IsTold, Stands, StatTold, TextTold, all_told, stands_at, valid_of}

-- ---- directories

body_dir : (b : Body) → kind_of b ≡ kind.Dir → is_dir_body b ≡ true
body_dir (dir far) e = refl
body_dir _ e = absurd (cc)

-- a node with the stat of a directory is one
stands_dir : (files : Files) (q : List ℕ) (st : Stat) → Stands files q st → st.kind ≡ kind.Dir → is_dir (get files q) ≡ true
stands_dir files q st s d = ap is_dir s.there ∙ body_dir s.node.body (ap (λ (x : Stat). x.kind) s.stat ∙ d)

dir_stat : (s : Option Stat) → is_of kind.Dir s ≡ true → (stat : Stat) × (s ≡ Some stat) × (stat.kind ≡ kind.Dir)
dir_stat None e = absurd (false≢true e)
dir_stat (Some stat) e = (stat, refl, sym (kind_eq kind.Dir stat.kind e))

same_stat : (files : Files) (q : List ℕ) (s t : Stat) → Stands files q s → Stands files q t → s ≡ t
same_stat files q s t a b = sym a.stat ∙ ap stat_of (same_node a.node b.node (sym a.there ∙ b.there)) ∙ b.stat
  where
    same_node : (n m : Node) → Some n ≡ Some m → n ≡ m
    same_node n m e = cc

-- the parts of an agreement
pub record Agreed (stat : Option Stat) (row : Row) : Type 0 where
  pub both : is_both row.exist ≡ true
  pub kinds : is_common row.kind ≡ true
  pub content : (is_of kind.Dir stat || is_common row.content) ≡ true

pub agreed : (stat : Option Stat) (row : Row) → agrees stat (Some row) ≡ true → Agreed stat row
agreed stat row e =
    let content = is_of kind.Dir stat || is_common row.content in
    let first = and_parts (is_both row.exist) (is_common row.kind && content) e in
    let second = and_parts (is_common row.kind) content first.1 in
    record { both = first.0; kinds = second.0; content = second.1 }

-- an entry that is copied gives a target
gives_target : (pair : Pair) (p : Entry → Bool) (es : List Entry) (d : Entry) → Contains es d → p d ≡ true → is_some d.stat ≡ true →
    is_target (pair ∷ []) (filter p es) (target_of (pair ∷ []) d.path) ≡ true
gives_target pair p es d c q s =
    some_on (pointwise nat_eq (target_of (pair ∷ []) d.path)) (targets_of (pair ∷ []) (filter p es)) (target_of (pair ∷ []) d.path)
    (in_map (λ (e : Entry). target_of (pair ∷ []) e.path) (treated (filter p es)) d
    (in_kept (λ (e : Entry). is_some e.stat) (filter p es) d (in_kept p es d c q) s))
    ((bytes_decides (target_of (pair ∷ []) d.path) (target_of (pair ∷ []) d.path)).1 refl)

module _ (law : NodesHavePaths) (pair : Pair) (source dest : List Entry) (delete : Bool) (found : Findings) (before mid : Files)
    (tree : IsTree before) (m : Removal pair source dest delete found before mid) where
  abbrev l : Side
  l = side pair.source source

  abbrev is_wanting : Entry → Bool
  is_wanting = is_copied l found.rows

  abbrev target : List ℕ → List ℕ
  target x = target_of (pair ∷ []) x

  abbrev below : Entry → List ℕ
  below e = below_of e.path pair.source

  -- the removal left the source as it was
  same_source : (x : List ℕ) → is_within x pair.source ≡ true → get mid x ≡ get before x
  same_source x w = m.others x (not_chosen pair source dest m.known delete found.rows x (source_off pair source dest m.known x w))

  -- a directory that both sides have is there yet
  stays : (d : Entry) → IsTold before pair.source d → is_of kind.Dir d.stat ≡ true →
      agrees d.stat (row_at found.rows (below d)) ≡ true → is_dir (get mid (grafted pair.target (below d))) ≡ true
  stays d t dirs agree = by (row_at found.rows (below d)) refl agree
    where
      by : (o : Option Row) → row_at found.rows (below d) ≡ o → agrees d.stat o ≡ true → is_dir (get mid (grafted pair.target (below d))) ≡ true
      by None at e = absurd (false≢true e)
      by (Some row) at e =
          let a = agreed d.stat row e in
          let own = dir_stat d.stat dirs in
          let valid = valid_of law before tree d (ap is_some own.1) t.stat in
          let path = below_made d.path pair.source (below d) refl valid t.within in
          let b = have_both pair source dest delete found before mid m (below d) row path at a.both a.kinds in
          let here : Stands before (grafted pair.source (below d)) own.0 =
          subst (λ q. Stands before q own.0) (sym (graft_undoes_below d.path pair.source t.within)) (stands_at before d own.0 own.1 t.stat)
          in
          let same : b.one ≡ own.0 = same_stat before (grafted pair.source (below d)) b.one own.0 b.source here in
          ap is_dir b.stays ∙ stands_dir before (grafted pair.target (below d)) b.two b.target (sym b.same ∙ ap (λ (x : Stat). x.kind) same ∙ own.2)

  -- the target of an entry that is not the source itself stands in that of its directory
  stands_under : (e : Entry) → refusal e.path ≡ None → is_under e.path pair.source ≡ true → has_parent source e ≡ true →
      is_target (pair ∷ []) (filter is_wanting source) (parent_of (target e.path)) ≡ false → is_dir (get mid (parent_of (target e.path))) ≡ true
  stands_under e valid under listed off =
      let any = Any-from_list_any (λ (d : Entry). pointwise nat_eq d.path (parent_of e.path) && is_of kind.Dir d.stat) source listed in
      by any.1 (any.0, any.2, any.3) (and_parts (pointwise nat_eq any.1.path (parent_of e.path)) (is_of kind.Dir any.1.stat) any.4)
    where
      by : (d : Entry) → Contains source d → (pointwise nat_eq d.path (parent_of e.path) ≡ true) × (is_of kind.Dir d.stat ≡ true) →
          is_dir (get mid (parent_of (target e.path))) ≡ true
      by d c so =
          let path : d.path ≡ parent_of e.path = (bytes_decides d.path (parent_of e.path)).0 so.0 in
          let told = All-contains (IsTold before pair.source) source d (all_told before pair.source source m.known.can.left m.fits.left) c in
          let to : parent_of (target e.path) ≡ grafted pair.target (below d) =
          ap parent_of (goes_to pair source dest m.known e.path (under_within e.path pair.source under))
          ∙ parent_moves_too.moved e.path pair.source pair.target valid m.known.from m.known.to under
          ∙ ap (λ x. grafted pair.target (below_of x pair.source)) (sym path)
          in
          elim (agrees d.stat (row_at found.rows (below d))) as
          (λ b. agrees d.stat (row_at found.rows (below d)) ≡ b → is_dir (get mid (parent_of (target e.path))) ≡ true) [
            | true ↦ λ a. ap (λ x. is_dir (get mid x)) to ∙ stays d told so.1 a
            | false ↦ λ a.
                let some : is_some d.stat ≡ true = ap is_some (dir_stat d.stat so.1).1 in
                let wanting : is_wanting d ≡ true =
                and_from (is_some d.stat) (not (agrees d.stat (row_at found.rows (below d)))) some (ap not a)
                in
                let same : target d.path ≡ parent_of (target e.path) = goes_to pair source dest m.known d.path told.within ∙ sym to in
                absurd (false≢true (sym off ∙ subst (λ q. is_target (pair ∷ []) (filter is_wanting source) q ≡ true) same
                (gives_target pair is_wanting source d c wanting some)))
          ] refl

  -- and that of the source itself in the directory over the target
  stands_at_top : (e : Entry) → e.path ≡ pair.source → is_dir (get mid (parent_of (target e.path))) ≡ true
  stands_at_top e is =
      let within : is_within e.path pair.source ≡ true = ap (λ x. is_within x pair.source) is ∙ itself pair.source in
      let to : target e.path ≡ pair.target =
      goes_to pair source dest m.known e.path within ∙ ap (λ x. grafted pair.target (below_of x pair.source)) is ∙ grafted_itself pair.target pair.source
      in
      ap (λ x. is_dir (get mid (parent_of x))) to
      ∙ ap is_dir (m.others (parent_of pair.target) (not_chosen pair source dest m.known delete found.rows (parent_of pair.target)
      (over_off pair source dest m.known)))
      ∙ m.fits.stand

  abbrev StandsIn : Entry → Type 0
  StandsIn e = is_target (pair ∷ []) (filter is_wanting source) (parent_of (target e.path)) ≡ false → is_dir (get mid (parent_of (target e.path))) ≡ true

  -- an entry of the source, with its directory
  abbrev IsSound : Entry → Type 0
  IsSound e = IsTold before pair.source e × (is_some e.stat ≡ true → pointwise nat_eq e.path pair.source ≡ false → has_parent source e ≡ true)

  sound : All IsSound source
  sound = λ i d h. (all_told before pair.source source m.known.can.left m.fits.left i d h, m.fits.parents i d h)

  stands : (e : Entry) → is_wanting e ≡ true → IsSound e → StandsIn e
  stands e wanting s off =
      let some = (and_parts (is_some e.stat) (not (agrees e.stat (row_at found.rows (below_of e.path pair.source)))) wanting).0 in
      elim (pointwise nat_eq e.path pair.source) as
      (λ b. pointwise nat_eq e.path pair.source ≡ b → is_dir (get mid (parent_of (target e.path))) ≡ true) [
        | true ↦ λ is. stands_at_top e ((bytes_decides e.path pair.source).0 is)
        | false ↦ λ other.
            let under = ap (λ b. b || is_under e.path pair.source) (sym other) ∙ s.0.within in
            stands_under e (valid_of law before tree e some s.0.stat) under (s.1 some other) off
      ] refl

  still_told : (e : Entry) → IsSound e → StatTold mid e
  still_told e s = subst (λ o. IfSome e.stat (λ stat. option_map stat_of o ≡ Some stat)) (sym (same_source e.path s.0.within)) s.0.stat

  still_text : (e : Entry) → IsSound e → TextTold mid e
  still_text e s = subst (λ o. IfSome e.target (λ text. link_at o ≡ Some text)) (sym (same_source e.path s.0.within)) s.0.text

  fits_wanting : FitsTree (filter is_wanting source) (pair ∷ []) mid
  fits_wanting = record {
    told = of_kept true is_wanting IsSound (StatTold mid) source (λ e _ s. still_told e s) sound;
    targets = of_kept true is_wanting IsSound (TextTold mid) source (λ e _ s. still_text e s) sound;
    stand = All-filter (λ (e : Entry). is_some e.stat) StandsIn (filter is_wanting source)
        (of_kept true is_wanting IsSound StandsIn source (λ e c s. stands e c s) sound);
  }

  pub fits_copy : FitsTree (copied_of l found.rows) (pair ∷ []) mid
  fits_copy =
      elim (is_there l) as (λ b. FitsTree (cond b (filter is_wanting source) []) (pair ∷ []) mid) [
        | true ↦ fits_wanting
        | false ↦ record {
          told = λ i d h. absurd (omega (arith, h));
          targets = λ i d h. absurd (omega (arith, h));
          stand = λ i d h. absurd (omega (arith, h));
        }
      ]
