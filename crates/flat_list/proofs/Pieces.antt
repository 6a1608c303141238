-- The lines of a list file one by one: each is an entry's own, or that of the target of the entry before it.
use Rattle.flat_list.proofs.Prelude.{◌≡◌, ℕ, ◌+◌, ◌≤◌, true, ◌&&◌, List, [], ◌∷◌, ◌++◌, length, Option, Some, None, refl, ap, sym, ◌∙◌, subst, arith, is_none}
use Rattle.flat_list.proofs.Prelude.{IfSome, AllByRecursion, flat_map, IsStrictlySortedBy, and_parts, and_from, flat_map-append, path_cmp, Entry, Version}
use Rattle.flat_list.proofs.Prelude.{has_target, text_of, target_text, IsTarget, IsEntry, is_new, IsKnown, paths, IsList, line, cons_parts, same_from_push}
use Rattle.std.proofs.Common.{◌||◌, append_assoc, append-nil}
use Rattle.flat_list.proofs.Ascending.{sorted_front}

pub data Piece : Type 0 where
  own : Entry → Piece
  target : List ℕ → Piece

-- an entry as its own line tells it
abbrev pub bare : Entry → Entry
bare e = record e { target = None }

abbrev pub target_pieces : Option (List ℕ) → List Piece
target_pieces None = []
target_pieces (Some t) = target t ∷ []

abbrev pub pieces_by : Entry → List Piece
pieces_by e = own (bare e) ∷ target_pieces e.target

abbrev pub pieces_of : List Entry → List Piece
pieces_of es = flat_map pieces_by es

abbrev pub piece_line : Piece → List ℕ
piece_line (own e) = line (text_of e)
piece_line (target t) = line (target_text t)

-- an entry that one line tells whole
pub record IsLine (v : Version) (e : Entry) : Type 0 where
  pub entry : IsEntry e
  pub known : IsKnown v e
  pub none : e.target ≡ None

abbrev pub IsPiece : Version → Piece → Type 0
IsPiece v (own e) = IsLine v e
IsPiece v (target t) = (is_new v ≡ true) × IsTarget t

-- the pieces of a list
pub record IsFile (v : Version) (ps : List Piece) : Type 0 where
  pub entries : List Entry
  pub list : IsList entries
  pub known : AllByRecursion (IsKnown v) entries
  pub same : ps ≡ pieces_of entries

-- ---- the entries of pieces

abbrev taken : Entry → List Piece → Entry
taken e [] = e
taken e (own d ∷ ps) = e
taken e (target t ∷ ps) = record e { target = Some t }

pub entries_of : List Piece → List Entry
entries_of [] = []
entries_of (target t ∷ ps) = entries_of ps
entries_of (own e ∷ ps) = taken e ps ∷ entries_of ps

none_taken : (e : Entry) (es : List Entry) → taken e (pieces_of es) ≡ e
none_taken e [] = refl
none_taken e (d ∷ es) = refl

pub bare_is : (e : Entry) → e.target ≡ None → bare e ≡ e
bare_is e is = ap (λ (t : Option (List ℕ)). record e { target = t }) (sym is)

pub back : (es : List Entry) → entries_of (pieces_of es) ≡ es
unfolding entries_of
back [] = refl
back (e ∷ es) = by_target e.target refl (back es)
  where
    by_target : (o : Option (List ℕ)) → e.target ≡ o → entries_of (pieces_of es) ≡ es →
        entries_of (own (bare e) ∷ (target_pieces o ++ pieces_of es)) ≡ e ∷ es
    by_target None is rest = (λ i. (none_taken (bare e) es ∙ bare_is e is) i ∷ rest i)
    by_target (Some t) is rest = (λ i. ap (λ (t : Option (List ℕ)). record e { target = t }) (sym is) i ∷ rest i)

pub one_list : (es fs : List Entry) → pieces_of es ≡ pieces_of fs → es ≡ fs
one_list es fs same = sym (back es) ∙ ap entries_of same ∙ back fs

pub pieces_more : (es : List Entry) (e : Entry) → pieces_of (es ++ e ∷ []) ≡ pieces_of es ++ pieces_by e
pieces_more es e = flat_map-append pieces_by es (e ∷ []) ∙ ap (λ t. pieces_of es ++ t) (append-nil (pieces_by e))

pub bare_more : (es : List Entry) (e : Entry) → e.target ≡ None → pieces_of (es ++ e ∷ []) ≡ pieces_of es ++ own e ∷ []
bare_more es e none = pieces_more es e ∙ (λ i. pieces_of es ++ own (bare_is e none i) ∷ target_pieces (none i))

-- ---- how many of them are entries

pub own_count : List Piece → ℕ
own_count [] = 0
own_count (own e ∷ ps) = 1 + own_count ps
own_count (target t ∷ ps) = own_count ps

pub own_more : (ps qs : List Piece) → own_count (ps ++ qs) ≡ own_count ps + own_count qs
unfolding own_count
own_more [] qs = omega arith
own_more (own e ∷ ps) qs = omega (arith, own_more ps qs)
own_more (target t ∷ ps) qs = own_more ps qs

target_count : (o : Option (List ℕ)) → own_count (target_pieces o) ≡ 0
unfolding own_count
target_count None = refl
target_count (Some t) = refl

pub own_is : (es : List Entry) → own_count (pieces_of es) ≡ length es
unfolding own_count
own_is [] = refl
own_is (e ∷ es) = omega (arith, own_more (target_pieces e.target) (pieces_of es), target_count e.target, own_is es)

-- ---- each is a piece

line_bare : (v : Version) (e : Entry) → IsEntry e → IsKnown v e → IsLine v (bare e)
line_bare v e is known = record {
  entry = record {
    path = is.path;
    utf8 = is.utf8;
    target = tt;
    shape = (and_parts _ _ is.shape).1;
    size = is.size;
    time = is.time;
    unnamed = is.unnamed;
    far = is.far;
  };
  known = (and_parts _ _ known).1;
  none = refl;
}

target_is : (v : Version) (e : Entry) → IsEntry e → IsKnown v e → AllByRecursion (IsPiece v) (target_pieces e.target)
target_is v e is known = by_target e.target is.target (and_parts _ _ known).0
  where
    by_target : (o : Option (List ℕ)) → IfSome o IsTarget → (is_none o || is_new v) ≡ true → AllByRecursion (IsPiece v) (target_pieces o)
    by_target None t known = tt
    by_target (Some t) is known = ((known, is), tt)

pub all_join : {A : Type 0} (P : A → Type 0) (xs ys : List A) → AllByRecursion P xs → AllByRecursion P ys → AllByRecursion P (xs ++ ys)
all_join P [] ys h k = k
all_join P (x ∷ xs) ys h k = (h.0, all_join P xs ys h.1 k)

pub each_piece : (v : Version) (es : List Entry) → AllByRecursion IsEntry es → AllByRecursion (IsKnown v) es → AllByRecursion (IsPiece v) (pieces_of es)
each_piece v [] each known = tt
each_piece v (e ∷ es) each known = (
  line_bare v e each.0 known.0,
  all_join (IsPiece v) (target_pieces e.target) (pieces_of es) (target_is v e each.0 known.0) (each_piece v es each.1 known.1),
)

pub each_of : (v : Version) (ps : List Piece) → IsFile v ps → AllByRecursion (IsPiece v) ps
each_of v ps f = subst (AllByRecursion (IsPiece v)) (sym f.same) (each_piece v f.entries f.list.each f.known)

-- ---- the front of a list's pieces is a list's

record IsFront (v : Version) (es : List Entry) (qs : List Piece) : Type 0 where
  front : List Entry
  same : qs ≡ pieces_of front
  fewer : length front ≤ length es
  each : AllByRecursion IsEntry front
  known : AllByRecursion (IsKnown v) front
  more : List (List ℕ)
  parts : paths es ≡ paths front ++ more

abbrev Fronts : Version → List Entry → Type 0
Fronts v es = (qs rest : List Piece) → pieces_of es ≡ qs ++ rest → IsFront v es qs

front_more : (v : Version) (e : Entry) (es : List Entry) (q : Piece) → IsEntry e → IsKnown v e → Fronts v es →
    (o : Option (List ℕ)) → e.target ≡ o → (qs rest : List Piece) → target_pieces o ++ pieces_of es ≡ qs ++ rest → own (bare e) ≡ q →
    IsFront v (e ∷ es) (q ∷ qs)
front_more v e es q is known fronts None none qs rest tail head =
    let r = fronts qs rest tail in
    record {
      front = e ∷ r.front;
      same = (λ i. sym head i ∷ r.same i) ∙ (λ i. own (bare e) ∷ (target_pieces (sym none i) ++ pieces_of r.front));
      fewer = omega (arith, r.fewer);
      each = (is, r.each);
      known = (known, r.known);
      more = r.more;
      parts = ap (λ ps. e.path ∷ ps) r.parts;
    }
front_more v e es q is known fronts (Some t) some [] rest tail head =
    let one = line_bare v e is known in
    record {
      front = bare e ∷ [];
      same = ap (λ p. p ∷ []) (sym head);
      fewer = omega arith;
      each = (one.entry, tt);
      known = (one.known, tt);
      more = paths es;
      parts = refl;
    }
front_more v e es q is known fronts (Some t) some (p ∷ qs) rest tail head =
    let tails = cons_parts _ _ _ _ tail in
    let r = fronts qs rest tails.1 in
    record {
      front = e ∷ r.front;
      same = (λ i. sym head i ∷ sym tails.0 i ∷ r.same i) ∙ (λ i. own (bare e) ∷ (target_pieces (sym some i) ++ pieces_of r.front));
      fewer = omega (arith, r.fewer);
      each = (is, r.each);
      known = (known, r.known);
      more = r.more;
      parts = ap (λ ps. e.path ∷ ps) r.parts;
    }

front_of : (v : Version) (es : List Entry) → AllByRecursion IsEntry es → AllByRecursion (IsKnown v) es → Fronts v es
front_of v es each known [] rest is =
    record { front = []; same = refl; fewer = omega arith; each = tt; known = tt; more = paths es; parts = refl }
front_of v [] each known (q ∷ qs) rest is = absurd cc
front_of v (e ∷ es) each known (q ∷ qs) rest is =
    let parts = cons_parts _ _ _ _ is in
    front_more v e es q each.0 known.0 (front_of v es each.1 known.1) e.target refl qs rest parts.1 parts.0

pub follows_in : (v : Version) (ps : List Piece) (p : Piece) (rest : List Piece) → IsFile v (ps ++ p ∷ rest) → IsFile v (ps ++ p ∷ [])
follows_in v ps p rest f =
    let parts : pieces_of f.entries ≡ (ps ++ p ∷ []) ++ rest = sym f.same ∙ sym (append_assoc ps (p ∷ []) rest) in
    let r = front_of v f.entries f.list.each f.known (ps ++ p ∷ []) rest parts in
    let count = f.list.count in
    record {
      entries = r.front;
      list = record {
        count = omega (arith, r.fewer, count);
        each = r.each;
        ascend = sorted_front path_cmp (paths r.front) r.more (subst (IsStrictlySortedBy path_cmp) r.parts f.list.ascend);
      };
      known = r.known;
      same = r.same;
    }

-- ---- what stands last

snoc_none : {A : Type 0} (xs : List A) (x : A) → xs ++ x ∷ [] ≡ [] → ⊥
snoc_none [] x e = cc
snoc_none (y ∷ xs) x e = cc

-- entries are none, or have a last one
pub data Ends (es : List Entry) : Type 0 where
  are_none : es ≡ [] → Ends es
  end_with : (front : List Entry) (e : Entry) → es ≡ front ++ e ∷ [] → Ends es

pub ends : (es : List Entry) → Ends es
ends [] = are_none refl
ends (e ∷ es) = by_rest (ends es)
  where
    by_rest : Ends es → Ends (e ∷ es)
    by_rest (are_none is) = end_with [] e (ap (λ l. e ∷ l) is)
    by_rest (end_with front d is) = end_with (e ∷ front) d (ap (λ l. e ∷ l) is)

-- a target follows the pieces of a list only behind an entry that has none yet, where targets are told
pub record TakesTarget (v : Version) (es : List Entry) (t : List ℕ) : Type 0 where
  pub front : List Entry
  pub last : Entry
  pub parts : es ≡ front ++ last ∷ []
  pub none : last.target ≡ None
  pub takes : (is_new v && has_target last.mark last.stat) ≡ true

last_entry : (v : Version) (front : List Entry) (e : Entry) → AllByRecursion IsEntry (front ++ e ∷ []) →
    AllByRecursion (IsKnown v) (front ++ e ∷ []) →
    IsEntry e × IsKnown v e
last_entry v [] e each known = (each.0, known.0)
last_entry v (d ∷ front) e each known = last_entry v front e each.1 known.1

pub target_follows : (v : Version) (es : List Entry) (t : List ℕ) → IsFile v (pieces_of es ++ target t ∷ []) → TakesTarget v es t
target_follows v es t f = by_end (ends f.entries)
  where
    by_end : Ends f.entries → TakesTarget v es t
    by_end (are_none is) = absurd (snoc_none (pieces_of es) (target t) (f.same ∙ ap pieces_of is))
    by_end (end_with front e is) =
        let last = last_entry v front e (subst (AllByRecursion IsEntry) is f.list.each) (subst (AllByRecursion (IsKnown v)) is f.known) in
        by_target e.target refl last.0 last.1 (f.same ∙ ap pieces_of is ∙ pieces_more front e)
      where
        by_target : (o : Option (List ℕ)) → e.target ≡ o → IsEntry e → IsKnown v e →
            pieces_of es ++ target t ∷ [] ≡ pieces_of front ++ pieces_by e →
            TakesTarget v es t
        by_target None empty entry known same =
            let whole : pieces_of es ++ target t ∷ [] ≡ pieces_of front ++ own (bare e) ∷ [] =
            same ∙ (λ i. pieces_of front ++ own (bare e) ∷ target_pieces (empty i)) in
            let differ : target t ≡ own (bare e) = (same_from_push _ _ _ _ whole).1 in
            absurd cc
        by_target (Some u) full entry known same =
            let whole : pieces_of es ++ target t ∷ [] ≡ (pieces_of front ++ own (bare e) ∷ []) ++ target u ∷ [] =
            same ∙ (λ i. pieces_of front ++ own (bare e) ∷ target_pieces (full i))
            ∙ sym (append_assoc (pieces_of front) (own (bare e) ∷ []) (target u ∷ [])) in
            let parts = same_from_push (pieces_of es) (pieces_of front ++ own (bare e) ∷ []) (target t) (target u) whole in
            let told : (is_none (Some u) || has_target e.mark e.stat) ≡ true =
            subst (λ o. (is_none o || has_target e.mark e.stat) ≡ true) full (and_parts _ _ entry.shape).0 in
            let new : (is_none (Some u) || is_new v) ≡ true = subst (λ o. (is_none o || is_new v) ≡ true) full (and_parts _ _ known).0 in
            record {
              front = front;
              last = bare e;
              parts = one_list es (front ++ bare e ∷ []) (parts.0 ∙ sym (bare_more front (bare e) refl));
              none = refl;
              takes = and_from (is_new v) (has_target e.mark e.stat) new told;
            }
