-- Shares that are leased, one after the other.
use Rattle.level_work.proofs.Prelude.{◌≡◌, ℕ, zero, suc, ◌+◌, ◌<◌, ◌≤◌, Bool, true, false, cond, not, ◌||◌, ◌&&◌, List, [], ◌∷◌, ◌++◌, length, Option, Some}
use Rattle.level_work.proofs.Prelude.{None, IfSome, refl, ap, ◌∙◌, sym, subst, arith, eqb, nat_lt, append_assoc, is_some, slice_get, IsTrue, slice_set}
use Rattle.level_work.proofs.Prelude.{false≢true, slice_get_within, list_all, option_map, get, is_within, level_of, parent_of, Files, is_dir}
use Rattle.level_work.proofs.Prelude.{is_root, Area, all_but, nothing_lent, under, is_open, is_apart, in_tops, leased, kept, area_without, tops_of, CanLease}
use Rattle.level_work.proofs.Prelude.{HaveParents, as_deep, parent_above, itself, some_bytes, a_top, get_part, get_rest, AreItems, CanStep, IsAt, part_tree}
use Rattle.level_work.proofs.Prelude.{part_area, part_count, ArePaths, IsShare, tops_in, tops_out, AtHome, InLot, AreShares, AreOut, AllReady, AllTell}
use Rattle.level_work.proofs.Prelude.{AreUnder, InNone, SameShares, Leasing, Item, Fate, Order, Lot, exact_unsigned_eq, longer}
use Rattle.level_work.proofs.Giving.{get_set_same, get_set_other, length_set, map_set, shares_set}
use Rattle.level_work.proofs.Homes.{none_out, none_counted, all_left}
use Rattle.level_work.proofs.Lent.{item_of, can_lease, is_ready}
use Rattle.level_work.proofs.Likes.{likes, likes_back, shares_over, same_place}
use Rattle.level_work.proofs.Working.{not_less, other_number, same_some, item_at}

all_of : {X : Type 0} (f : X → Bool) (xs : List X) → ((i : ℕ) (x : X) → slice_get xs i ≡ Some x → f x ≡ true) → list_all f xs ≡ true
all_of f [] h = refl
all_of f (x ∷ xs) h = ap (λ b. b && list_all f xs) (h 0 x refl) ∙ all_of f xs (λ i y at. h (suc i) y at)

all_both : {X : Type 0} (f : X → Bool) (xs ys : List X) → list_all f xs ≡ true → list_all f ys ≡ true → list_all f (xs ++ ys) ≡ true
all_both f [] ys h k = k
all_both f (x ∷ xs) ys h k = elim (f x) as (λ b. f x ≡ b → (b && list_all f xs) ≡ true → (b && list_all f (xs ++ ys)) ≡ true) [
  | true ↦ λ _ h. all_both f xs ys h k
  | false ↦ λ _ h. h
] refl h

-- what stands in a list in which one place was written
pub data Written {X : Type 0} (xs : List X) (i : ℕ) (new : X) (j : ℕ) (x : X) : Type 0 where
  written_here : j ≡ i → new ≡ x → Written xs i new j x
  written_there : (j ≡ i → ⊥) → slice_get xs j ≡ Some x → Written xs i new j x

pub written : {X : Type 0} (xs : List X) (i : ℕ) (new : X) (j : ℕ) (x : X) → i < length xs → slice_get (slice_set xs i new) j ≡ Some x → Written xs i new j x
written xs i new j x l e = elim (eqb j i) as (λ b. eqb j i ≡ b → Written xs i new j x) [
  | true ↦ λ is. let s = exact_unsigned_eq j i is in
      written_here s (same_some new x (sym (get_set_same xs i new l) ∙ ap (slice_get (slice_set xs i new)) (sym s) ∙ e))
  | false ↦ λ off. let n = other_number j i off in written_there n (sym (get_set_other xs i j new n) ∙ e)
] refl

some_map : {X Y : Type 0} (f : X → Y) (o : Option X) → is_some (option_map f o) ≡ is_some o
some_map f None = refl
some_map f (Some x) = refl

module _ {A P : Type 0} (tree : P → Option Files) (area : P → Area) (count : P → ℕ) where
  all_out : (f : List (List ℕ) → Bool) (lots : List (Lot A P))
      → ((j : ℕ) (one : Lot A P) → slice_get lots j ≡ Some one → list_all f (tops_in (part_area area one.part)) ≡ true)
      → list_all f (tops_out (part_area area) lots) ≡ true
  all_out f [] h = refl
  all_out f (lot ∷ lots) h =
      all_both f (tops_in (part_area area lot.part)) (tops_out (part_area area) lots) (h 0 lot refl)
      (all_out f lots (λ j one at. h (suc j) one at))

  out_more : (now : List (Lot A P)) (i : ℕ) (lot new : Lot A P) (tops : List (List ℕ)) → slice_get now i ≡ Some lot
      → ((j : ℕ) (one : Lot A P) → i ≤ j → slice_get now j ≡ Some one → one.part ≡ None) → part_area area new.part ≡ under tops →
      tops_out (part_area area) (slice_set now i new) ≡ tops_out (part_area area) now ++ tops ∷ []
  out_more [] i lot new tops at later u = cc
  out_more (x ∷ xs) zero lot new tops at later u =
      let none = none_out tree area count xs (λ j one e. later (suc j) one (omega arith) e) in
      ap (λ a. tops_in a ++ tops_out (part_area area) xs) u ∙ ap (λ r. tops ∷ r) none
      ∙ sym (ap (λ r. r ++ tops ∷ []) (ap (λ o. tops_in (part_area area o) ++ tops_out (part_area area) xs) (later 0 x (omega arith) refl) ∙ none))
  out_more (x ∷ xs) (suc i) lot new tops at later u =
      ap (λ r. tops_in (part_area area x.part) ++ r) (out_more xs i lot new tops at (λ j one l e. later (suc j) one (omega (arith, l)) e) u)
      ∙ sym (append_assoc (tops_in (part_area area x.part)) (tops_out (part_area area) xs) (tops ∷ []))

  pub begin : (items : List Item) (lots : List (Lot A P)) (a : Area) (t : Option Files) → AtHome lots → a ≡ nothing_lent
      → Leasing (part_tree tree) (part_area area) (part_count count) 0 items lots lots a t t
  begin items lots a t home e = record {
    len = refl;
    shares = record { actor = refl; places = refl; fates = refl; lost = refl };
    rest = λ j l. refl;
    at = e ∙ ap (λ l. all_but l []) (sym (none_out tree area count lots home));
    leased = λ j lot l at. absurd (omega (arith, l));
    paths = λ j lot l at. absurd (omega (arith, l));
    told = all_left tree area count lots t home;
    tells = refl;
    parts_tell = λ j lot p at is. absurd (clash lot.part p (home j lot at) is);
    counts = none_counted tree area count lots home;
  }
    where
      clash : (o : Option P) (p : P) → o ≡ None → o ≡ Some p → ⊥
      clash None p e s = cc
      clash (Some q) p e s = cc

  module _ (o : Order) (level : ℕ) (items : List Item) (old : List Fate) (lots now : List (Lot A P)) (i : ℕ) (a : Area) (t0 t : Option Files)
      (are : AreItems items) (home : AtHome lots) (s : AreShares o level items old lots)
      (v : Leasing (part_tree tree) (part_area area) (part_count count) i items lots now a t0 t) where
    dealt : AreShares o level items old now
    dealt = shares_over o level items old lots now (likes lots now v.shares) (likes_back lots now v.shares) s

    later : (j : ℕ) (one : Lot A P) → i ≤ j → slice_get now j ≡ Some one → one.part ≡ None
    later j one l e = home j one (sym (v.rest j l) ∙ e)

    mine : (j k : ℕ) (one : Lot A P) (x : Item) → slice_get now j ≡ Some one → IsAt items one.places.items k x → InLot items now j k x
    mine j k one x at is = record { lot = one; is_lot = at; at = is }

    pub share : (j : ℕ) (one : Lot A P) → slice_get now j ≡ Some one → IsShare items one.places.items
    share j one at = record {
      inside = λ k n e. dealt.inside j k n one at e;
      apart = λ k n x y other b c. dealt.apart j j k n x y (λ e. other e.1) (mine j k one x at b) (mine j n one y at c) x.path (itself x.path);
      one_level = λ k n x y b c. dealt.on_level j k x (mine j k one x at b) ∙ sym (dealt.on_level j n y (mine j n one y at c));
      no_root = λ k x b. are.no_root b.place x b.is;
    }

    -- nothing is in a part that is not out
    not_out : (j : ℕ) (one : Lot A P) (q : List ℕ) → i ≤ j → slice_get now j ≡ Some one → in_tops (tops_of (part_area area one.part)) q ≡ false
    not_out j one q l at = ap (λ p. in_tops (tops_of (part_area area p)) q) (later j one l at)

    -- the item of a share that a path in its part is within
    record Owner (j : ℕ) (one : Lot A P) (q : List ℕ) : Type 0 where
      place : ℕ
      item : Item
      at : IsAt items one.places.items place item
      within : is_within q item.path ≡ true
      out : j < i

    owner : (j : ℕ) (one : Lot A P) (q : List ℕ) → slice_get now j ≡ Some one → in_tops (tops_of (part_area area one.part)) q ≡ true → Owner j one q
    owner j one q at on = elim (nat_lt j i) as (λ b. nat_lt j i ≡ b → Owner j one q) [
      | true ↦ λ less. by (longer j i less)
      | false ↦ λ more. absurd (false≢true (sym (not_out j one q (not_less j i more) at) ∙ on))
    ] refl
      where
        by : j < i → Owner j one q
        by l =
            let top = a_top (tops_of (part_area area one.part)) q on in
            let p = v.paths j one l at in
            let x : (x : Item) × IsAt items one.places.items top.place x =
            item_at items one.places.items top.place
            (omega (arith, slice_get_within (tops_of (part_area area one.part)) top.place top.top top.at, p.len))
            (λ k n e. dealt.inside j k n one at e) in
            record {
              place = top.place;
              item = x.0;
              at = x.1;
              within = ap (is_within q) (same_some x.0.path top.top (sym (p.of_item top.place x.0 x.1) ∙ top.at)) ∙ top.on;
              out = l;
            }

    -- what is at or under an item of a share that is not leased is in no part
    elsewhere : (k : ℕ) (one : Lot A P) (x : Item) (q : List ℕ) → slice_get now i ≡ Some one → IsAt items one.places.items k x
        → is_within q x.path ≡ true → InNone (part_area area) now q
    elsewhere k one x q at b on j his at' =
        elim (in_tops (tops_of (part_area area his.part)) q) as (λ c. in_tops (tops_of (part_area area his.part)) q ≡ c → c ≡ false) [
          | true ↦ λ is. let y = owner j his q at' is in
              absurd (false≢true (sym (dealt.apart i j k y.place x y.item (λ e. omega (arith, e.0, y.out)) (mine i k one x at b)
              (mine j y.place his y.item at' y.at) q on) ∙ y.within))
          | false ↦ λ _. refl
        ] refl

    -- the parent of an item of the level is in no part
    parent_out : (x : Item) (n : ℕ) → slice_get items n ≡ Some x → level_of x.path ≡ level → InNone (part_area area) now (parent_of x.path)
    parent_out x n is lev j his at' =
        elim (in_tops (tops_of (part_area area his.part)) (parent_of x.path)) as
        (λ c. in_tops (tops_of (part_area area his.part)) (parent_of x.path) ≡ c → c ≡ false) [
          | true ↦ λ on. let y = owner j his (parent_of x.path) at' on in
              let up = as_deep (parent_of x.path) y.item.path (some_bytes y.item.path (are.valid y.at.place y.item y.at.is)) y.within in
              let above = parent_above x.path (are.valid n x is) (are.no_root n x is) in
              absurd (omega (arith, up, above, lev, dealt.on_level j y.place y.item (mine j y.place his y.item at' y.at)))
          | false ↦ λ _. refl
        ] refl

    -- a part that is out is apart from an item of a share that is not
    apart_from : (k : ℕ) (one : Lot A P) (x : Item) → slice_get now i ≡ Some one → IsAt items one.places.items k x → (j : ℕ) (his : Lot A P)
        → slice_get now j ≡ Some his → list_all (is_apart x.path) (tops_in (part_area area his.part)) ≡ true
    apart_from k one x at b j his at' = elim (nat_lt j i) as (λ c. nat_lt j i ≡ c → list_all (is_apart x.path) (tops_in (part_area area his.part)) ≡ true) [
      | true ↦ λ less. by (longer j i less)
      | false ↦ λ more. ap (λ p. list_all (is_apart x.path) (tops_in (part_area area p))) (later j his (not_less j i more) at')
    ] refl
      where
        two : (p q : Bool) → p ≡ false → q ≡ false → not (p || q) ≡ true
        two p q e f = (λ n. not (e n || f n))

        by : j < i → list_all (is_apart x.path) (tops_in (part_area area his.part)) ≡ true
        by l =
            let p = v.paths j his l at' in
            ap (λ z. list_all (is_apart x.path) (tops_in z)) (v.leased j his l at')
            ∙ ap (λ c. c && true) (all_of (λ top. not (is_within x.path top || is_within top x.path)) (tops_of (part_area area his.part)) (λ n top e.
            let u = item_of items his.places.items (tops_of (part_area area his.part)) (share j his at') p n top e in
            subst (λ r. not (is_within x.path r || is_within r x.path) ≡ true) u.1.1
            (two (is_within x.path u.0.path) (is_within u.0.path x.path)
            (dealt.apart i j k n x u.0 (λ e. omega (arith, e.0, l)) (mine i k one x at b) (mine j n his u.0 at' u.1.0) x.path (itself x.path))
            (dealt.apart j i n k u.0 x (λ e. omega (arith, e.0, l)) (mine j n his u.0 at' u.1.0) (mine i k one x at b) u.0.path (itself u.0.path)))))

    module _ (lot : Lot A P) (at : slice_get now i ≡ Some lot) (tops : List (List ℕ)) (p : ArePaths items lot.places.items tops) where
      pub can_be_leased : CanLease a tops
      can_be_leased = let c = can_lease items lot.places.items tops (share i lot at) p in record {
        distinct = c.distinct;
        one_level = c.one_level;
        are_open = λ k x e. let u = item_of items lot.places.items tops (share i lot at) p k x e in subst (λ r. IsTrue (is_open a r)) u.1.1
            (ap (λ z. is_open z u.0.path) v.at
            ∙ ap (λ c. c && not (is_root u.0.path)) (all_out (is_apart u.0.path) now (apart_from k lot u.0 at u.1.0))
            ∙ ap not (are.no_root u.1.0.place u.0 u.1.0.is));
      }

      pub have_parents : IfSome t0 (CanStep o level items old) → IfSome t (HaveParents tops)
      have_parents can = by t0 t refl refl v.told v.tells can
        where
          by : (t0' t' : Option Files) → t0 ≡ t0' → t ≡ t' → IfSome t0' (λ b. IfSome t' (AreOut (part_tree tree) (part_area area) now b))
              → is_some t' ≡ is_some t0' → IfSome t0' (CanStep o level items old) → IfSome t' (HaveParents tops)
          by t0' None e f told tells can = tt
          by None (Some r) e f told tells can = absurd (false≢true (sym tells))
          by (Some b) (Some r) e f told tells can = λ k x h.
              let u = item_of items lot.places.items tops (share i lot at) p k x h in
              let lev = dealt.on_level i k u.0 (mine i k lot u.0 at u.1.0) in
              subst (λ q. is_dir (get r (parent_of q)) ≡ true) u.1.1
              (ap is_dir (told.left (parent_of u.0.path) (parent_out u.0 u.1.0.place u.1.0.is lev))
              ∙ can u.1.0.place u.0 u.1.0.is lev (dealt.can i k u.0 (mine i k lot u.0 at u.1.0)))

      module _ (part : P) (new : Lot A P) (a' : Area) (t' : Option Files) (is : new ≡ record lot { part = Some part })
          (own : tree part ≡ option_map (leased tops) t) (none : count part ≡ 0) (his : area part ≡ under tops)
          (rest' : t' ≡ option_map (kept tops) t) (less : a' ≡ area_without tops a) where
        inside : i < length now
        inside = slice_get_within now i lot at

        no_part : lot.part ≡ None
        no_part = later i lot (omega arith) at

        new_area : part_area area new.part ≡ under tops
        new_area = ap (λ (l : Lot A P). part_area area l.part) is ∙ his

        new_tree : part_tree tree new.part ≡ option_map (leased tops) t
        new_tree = ap (λ (l : Lot A P). part_tree tree l.part) is ∙ own

        earlier : (j : ℕ) → j < i + 1 → (j ≡ i → ⊥) → j < i
        earlier j l n = elim (nat_lt j i) as (λ b. nat_lt j i ≡ b → j < i) [
          | true ↦ λ e. longer j i e
          | false ↦ λ e. absurd (n (let m = not_less j i e in omega (arith, l, m)))
        ] refl

        is_under : (j : ℕ) (one : Lot A P) → j < i + 1 → slice_get (slice_set now i new) j ≡ Some one
            → part_area area one.part ≡ under (tops_of (part_area area one.part))
        is_under j one l e = by (written now i new j one inside e)
          where
            by : Written now i new j one → part_area area one.part ≡ under (tops_of (part_area area one.part))
            by (written_here s w) = subst (λ (x : Lot A P). part_area area x.part ≡ under (tops_of (part_area area x.part))) w
                (new_area ∙ ap (λ z. under (tops_of z)) (sym new_area))
            by (written_there n w) = v.leased j one (earlier j l n) w

        are_paths : (j : ℕ) (one : Lot A P) → j < i + 1 → slice_get (slice_set now i new) j ≡ Some one
            → ArePaths items one.places.items (tops_of (part_area area one.part))
        are_paths j one l e = by (written now i new j one inside e)
          where
            by : Written now i new j one → ArePaths items one.places.items (tops_of (part_area area one.part))
            by (written_here s w) = subst (λ (x : Lot A P). ArePaths items x.places.items (tops_of (part_area area x.part))) w
                (subst (λ z. ArePaths items new.places.items (tops_of z)) (sym new_area)
                (subst (λ (x : Lot A P). ArePaths items x.places.items tops) (sym is) p))
            by (written_there n w) = v.paths j one (earlier j l n) w

        all_tell : AllTell (part_tree tree) t0 (slice_set now i new)
        all_tell j one q e some = by (written now i new j one inside e)
          where
            by : Written now i new j one → is_some (part_tree tree one.part) ≡ is_some t0
            by (written_here s w) = ap (λ (x : Lot A P). is_some (part_tree tree x.part)) (sym w) ∙ ap is_some new_tree ∙ some_map (leased tops) t ∙ v.tells
            by (written_there n w) = v.parts_tell j one q w some

        -- over maps that are told
        out_again : (b r : Files) → t ≡ Some r → AreOut (part_tree tree) (part_area area) now b r
            → AreOut (part_tree tree) (part_area area) (slice_set now i new) b (kept tops r)
        out_again b r e w = record {
          left = λ q off. get_rest tops r q
              ∙ ap (λ c. cond (not c) (get r q) None)
              (ap (λ z. in_tops (tops_of z) q) (sym new_area) ∙ off i new (get_set_same now i new inside)) ∙ w.left q (none_before q off);
          out = λ j one mine' q e' shows on. by j one mine' q shows on (written now i new j one inside e');
        }
          where
            none_before : (q : List ℕ) → InNone (part_area area) (slice_set now i new) q → InNone (part_area area) now q
            none_before q off j one e' = elim (eqb j i) as (λ c. eqb j i ≡ c → in_tops (tops_of (part_area area one.part)) q ≡ false) [
              | true ↦ λ s. not_out j one q (let n = exact_unsigned_eq j i s in omega (arith, n)) e'
              | false ↦ λ n. off j one (get_set_other now i j new (other_number j i n) ∙ e')
            ] refl

            by : (j : ℕ) (one : Lot A P) (own' : Files) (q : List ℕ) → part_tree tree one.part ≡ Some own'
                → in_tops (tops_of (part_area area one.part)) q ≡ true → Written now i new j one → get own' q ≡ get b q
            by j one own' q shows on (written_there n h) = w.out j one own' q h shows on
            by j one own' q shows on (written_here s h) =
                let on' : in_tops tops q ≡ true = ap (λ z. in_tops (tops_of z) q) (sym new_area)
                ∙ ap (λ (x : Lot A P). in_tops (tops_of (part_area area x.part)) q) h ∙ on in
                let same : leased tops r ≡ own' =
                same_some (leased tops r) own'
                (sym (new_tree ∙ ap (option_map (leased tops)) e) ∙ ap (λ (x : Lot A P). part_tree tree x.part) h ∙ shows) in
                let top = a_top tops q on' in
                let u = item_of items lot.places.items tops (share i lot at) p top.place top.top top.at in
                ap (λ m. get m q) (sym same) ∙ get_part tops r q ∙ ap (λ c. cond c (get r q) None) on'
                ∙ w.left q (elsewhere top.place lot u.0 q at u.1.0 (ap (is_within q) u.1.1 ∙ top.on))

        told_again : IfSome t0 (λ b. IfSome t' (AreOut (part_tree tree) (part_area area) (slice_set now i new) b))
        told_again = by t0 t refl v.tells v.told
          where
            by : (t0' t1 : Option Files) → t ≡ t1 → is_some t1 ≡ is_some t0'
                → IfSome t0' (λ b. IfSome t1 (AreOut (part_tree tree) (part_area area) now b))
                → IfSome t0' (λ b. IfSome t' (AreOut (part_tree tree) (part_area area) (slice_set now i new) b))
            by None t1 e tells told = tt
            by (Some b) None e tells told = absurd (false≢true tells)
            by (Some b) (Some r) e tells told =
                subst (λ z. IfSome z (AreOut (part_tree tree) (part_area area) (slice_set now i new) b))
                (sym (rest' ∙ ap (option_map (kept tops)) e)) (out_again b r e told)

        pub leased_more : Leasing (part_tree tree) (part_area area) (part_count count) (i + 1) items lots (slice_set now i new) a' t0 t'
        leased_more = record {
          len = length_set now i new ∙ v.len;
          shares = shares_set lots now i lot new (Some part) at is v.shares;
          rest = λ j l. get_set_other now i j new (λ e. absurd (omega (arith, e, l))) ∙ v.rest j (omega (arith, l));
          at = less ∙ ap (area_without tops) v.at ∙ ap (λ l. all_but l []) (sym (out_more now i lot new tops at later new_area));
          leased = is_under;
          paths = are_paths;
          told = told_again;
          tells = ap is_some rest' ∙ some_map (kept tops) t ∙ v.tells;
          parts_tell = all_tell;
          counts = map_set (λ (l : Lot A P). part_count count l.part) now i lot new at
              (ap (λ (l : Lot A P). part_count count l.part) is ∙ none ∙ sym (ap (part_count count) no_part)) ∙ v.counts
              ∙ sym (map_set (λ (l : Lot A P). 0) now i lot new at refl);
        }

    pub all_under : AreUnder (part_area area) now
    all_under j one p at is = elim (nat_lt j i) as (λ b. nat_lt j i ≡ b → part_area area one.part ≡ under (tops_of (part_area area one.part))) [
      | true ↦ λ less. v.leased j one (longer j i less) at
      | false ↦ λ more. absurd (clash one.part p (later j one (not_less j i more) at) is)
    ] refl
      where
        clash : (q : Option P) (p : P) → q ≡ None → q ≡ Some p → ⊥
        clash None p e s = cc
        clash (Some q) p e s = cc

    pub all_ready : length lots ≤ i → ((j : ℕ) (lot : Lot A P) → slice_get lots j ≡ Some lot → (lot.fates.items ≡ []) × (lot.lost ≡ false))
        → AllReady (part_area area) items now
    all_ready l fresh = record {
      ready = λ j one at.
          let f = same_place (λ (l : Lot A P). l.fates) lots now v.shares.fates j one at in
          let g = same_place (λ (l : Lot A P). l.lost) lots now v.shares.lost j one at in
          is_ready items one.places.items (tops_of (part_area area one.part)) (share j one at) (v.paths j one (early j one at) at) (part_area area) one refl
          (ap (λ z. z.items) (sym f.same) ∙ (fresh j f.it f.here).0) (sym g.same ∙ (fresh j g.it g.here).1) (v.leased j one (early j one at) at);
      paths = λ j one at. v.paths j one (early j one at) at;
    }
      where
        early : (j : ℕ) (one : Lot A P) → slice_get now j ≡ Some one → j < i
        early j one at = omega (arith, slice_get_within now j one at, v.len, l)
