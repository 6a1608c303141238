-- The steps of reading a list file.
use Rattle.flat_list.proofs.Prelude.{◌≡◌, ℕ, suc, ◌+◌, ◌-◌, ◌<◌, ◌≤◌, Bool, true, false, cond, List, [], ◌∷◌, ◌++◌, length, take, Option, Some, None}
use Rattle.flat_list.proofs.Prelude.{length-append, refl, ap, sym, ◌∙◌, subst, arith, IsStrictlySortedBy, is_lt, IsUtf8, Ordering, Less, Equal, Greater}
use Rattle.flat_list.proofs.Prelude.{slice_get, not, is_none, IfSome, ◌||◌, ◌==◌, option_map, false≢true, and_parts, and_from, map-append, nil_from_length}
use Rattle.flat_list.proofs.Prelude.{path_cmp, path_cmp_total, Entry, Told, Version, Two, text_of, header_text, target_text, target_lines, lines_by}
use Rattle.flat_list.proofs.Prelude.{entry_lines, IsTarget, IsEntry, is_marked, is_new, is_known, IsKnown, paths, IsList, Follows, Spells, max_entries, line}
use Rattle.flat_list.proofs.Prelude.{end_text, lines_of, IsTooLong, IsRefused, cut, path_from, end_at, ◌>>=◌, told_at, told_entry, if_behind, path_after}
use Rattle.flat_list.proofs.Prelude.{IsLast, Adds, NoneFollows, is_sized, shape_by, has_target, is_shaped, target_at, takes_target, target_and, target_behind}
use Rattle.flat_list.proofs.Prelude.{with_target, behind_target, line_count, found_at, IsSettled, IsFree, cut_takes, pair_is, end_takes, end_again, line_same}
use Rattle.flat_list.proofs.Prelude.{line_first, free_uncut, torn, no_lines, all_more, cons_parts, slice_end}
use Rattle.std.proofs.Common.{append_assoc}
use Rattle.std.specs.Prelude.{◌&&◌}
use Rattle.flat_list.specs.Private.Reading.{path_behind, entry_at, entry_behind}
use Rattle.flat_list.specs.Private.Reading.{target_line}
use Rattle.flat_list.proofs.Lines.{entry_takes, entry_again, target_takes, target_again}
use Rattle.flat_list.proofs.Pieces.{Piece, own, target, piece_line, pieces_of, IsPiece, IsFile, IsLine, own_count, own_is, one_list, bare_more}
use Rattle.flat_list.proofs.Pieces.{TakesTarget, target_follows}
use Rattle.flat_list.proofs.Ascending.{sorted_none, sorted_one, sorted_last, sorted_more}
use Rattle.flat_list.proofs.Damage.{Undoes, list_more, lines_more, Stands, refused_here, refused_after, spelled}

-- ---- a path behind the others

pub lt_is : (o : Ordering) → is_lt o ≡ true → o ≡ Less
lt_is Less e = refl
lt_is Equal e = absurd cc
lt_is Greater e = absurd cc

with_last : (es : List Entry) (e : Entry) → slice_get es (length es - 1) ≡ Some e → (front : List Entry) × (es ≡ front ++ e ∷ [])
with_last [] e is = absurd cc
with_last (x ∷ []) e is = let same : x ≡ e = cc in ([], ap (λ e. e ∷ []) same)
with_last (x ∷ y ∷ es) e is =
    let less : length (x ∷ y ∷ es) - 1 ≡ suc (length (y ∷ es) - 1) = omega arith in
    let rest = with_last (y ∷ es) e (ap (slice_get (x ∷ y ∷ es)) (sym less) ∙ is) in
    (x ∷ rest.0, ap (λ l. x ∷ l) rest.1)

none_empty : (es : List Entry) → slice_get es (length es - 1) ≡ None → es ≡ []
none_empty [] is = refl
none_empty (x ∷ []) is = absurd cc
none_empty (x ∷ y ∷ es) is =
    let less : length (x ∷ y ∷ es) - 1 ≡ suc (length (y ∷ es) - 1) = omega arith in
    let rest = none_empty (y ∷ es) (ap (slice_get (x ∷ y ∷ es)) (sym less) ∙ is) in
    absurd cc

paths_last : (front : List Entry) (e : Entry) (es : List Entry) → es ≡ front ++ e ∷ [] → paths es ≡ paths front ++ e.path ∷ []
paths_last front e es is = ap paths is ∙ map-append (λ e. e.path) front (e ∷ [])

pub last_is : (es new : List Entry) (e : Entry) → new ≡ es ++ e ∷ [] → IsLast (Some e) new
last_is es new e is =
    let back : length es ≡ length (es ++ e ∷ []) - 1 = omega (arith, length-append es (e ∷ [])) in
    ap (λ l. slice_get l (length l - 1)) is ∙ ap (slice_get (es ++ e ∷ [])) (sym back) ∙ slice_end es e

precedes_yes : (es : List Entry) (e : Entry) (path : List ℕ) → slice_get es (length es - 1) ≡ Some e → IsStrictlySortedBy path_cmp (paths es) →
    is_lt (path_cmp e.path path) ≡ true → IsStrictlySortedBy path_cmp (paths es ++ path ∷ [])
precedes_yes es e path is sorted lt =
    let f = with_last es e is in
    let same = paths_last f.0 e es f.1 in
    subst (λ ps. IsStrictlySortedBy path_cmp (ps ++ path ∷ [])) (sym same)
    (sorted_more path_cmp path_cmp_total.trans (paths f.0) e.path path (subst (IsStrictlySortedBy path_cmp) same sorted) (lt_is _ lt))

precedes_no : (es : List Entry) (e : Entry) (path : List ℕ) → slice_get es (length es - 1) ≡ Some e → is_lt (path_cmp e.path path) ≡ false →
    IsStrictlySortedBy path_cmp (paths es ++ path ∷ []) → ⊥
precedes_no es e path is off sorted =
    let f = with_last es e is in
    let same = paths_last f.0 e es f.1 in
    let lt = sorted_last path_cmp (paths f.0) e.path path (subst (λ ps. IsStrictlySortedBy path_cmp (ps ++ path ∷ [])) same sorted) in
    false≢true (sym off ∙ ap is_lt lt)

precedes_first : (es : List Entry) (path : List ℕ) → slice_get es (length es - 1) ≡ None → IsStrictlySortedBy path_cmp (paths es ++ path ∷ [])
precedes_first es path is = subst (λ l. IsStrictlySortedBy path_cmp (paths l ++ path ∷ [])) (sym (none_empty es is)) (sorted_one path_cmp path)

-- ---- an entry behind the one before it

-- an entry, if its path comes behind that of another, where there is one
abbrev if_after : Option Entry → Entry → Option Entry
if_after None e = Some e
if_after (Some before) e = cond (is_lt (path_cmp before.path e.path)) (Some e) None

after_one : (before : Option Entry) (told : Told) (word : List ℕ) (o : Option (List ℕ)) → path_from word ≡ o →
    (path_after before word >>= λ path. Some (told_entry told path)) ≡ ((o >>= λ path. Some (told_entry told path)) >>= if_after before)
unfolding path_behind
after_one None told word None e = ap (λ o. o >>= λ path. Some (told_entry told path)) e
after_one None told word (Some path) e = ap (λ o. o >>= λ path. Some (told_entry told path)) e
after_one (Some before) told word None e = ap (λ o. (o >>= if_behind before.path) >>= λ path. Some (told_entry told path)) e
after_one (Some before) told word (Some path) e =
    ap (λ o. (o >>= if_behind before.path) >>= λ path. Some (told_entry told path)) e
    ∙ by_test (is_lt (path_cmp before.path path))
  where
    by_test : (b : Bool) → (cond b (Some path) None >>= λ path. Some (told_entry told path)) ≡ cond b (Some (told_entry told path)) None
    by_test true = refl
    by_test false = refl

after_told : (before : Option Entry) (o : Option (Told × List ℕ)) →
    (o >>= λ told. path_after before told.1 >>= λ path. Some (told_entry told.0 path))
    ≡ ((o >>= λ told. path_from told.1 >>= λ path. Some (told_entry told.0 path)) >>= if_after before)
after_told before None = refl
after_told before (Some told) = after_one before told.0 told.1 (path_from told.1) refl

after_is : (v : Version) (before : Option Entry) (text : List ℕ) → entry_behind v before text ≡ (entry_at v text >>= if_after before)
unfolding entry_behind entry_at
after_is v before text = after_told before (told_at v text)

paths_more : (es : List Entry) (e : Entry) → paths (es ++ e ∷ []) ≡ paths es ++ e.path ∷ []
paths_more es e = map-append (λ e. e.path) es (e ∷ [])

pub none_behind : (v : Version) (before : Option Entry) (text : List ℕ) (es : List Entry) → entry_behind v before text ≡ None → IsLast before es →
    NoneFollows (entry_at v text) es
none_behind v before text es none last = by_entry (entry_at v text) before (sym (after_is v before text) ∙ none) last
  where
    by_entry : (o before : Option Entry) → (o >>= if_after before) ≡ None → IsLast before es → NoneFollows o es
    by_entry None before e last = tt
    by_entry (Some d) None e last = absurd cc
    by_entry (Some d) (Some b) e last = by_test (is_lt (path_cmp b.path d.path)) refl e
      where
        by_test : (t : Bool) → is_lt (path_cmp b.path d.path) ≡ t → cond t (Some d) None ≡ None → Follows es d → ⊥
        by_test true lt e follows = absurd cc
        by_test false off e follows = precedes_no es b d.path last off (subst (IsStrictlySortedBy path_cmp) (paths_more es d) follows)

pub some_behind : (v : Version) (before : Option Entry) (text : List ℕ) (es new : List Entry) (d : Entry) (found : Option (List ℕ × List ℕ)) →
    entry_behind v before text ≡ Some d → IsUtf8 d.path → IfSome found (λ f. IsUtf8 f.0) → IsLast before es →
    IsStrictlySortedBy path_cmp (paths es) →
    new ≡ es ++ with_target d found ∷ [] → Adds (entry_at v text) found es new
some_behind v before text es new d found some utf8 named last sorted more = by_entry (entry_at v text) before (sym (after_is v before text) ∙ some) last
  where
    adds : (x : Entry) → x ≡ d → IsStrictlySortedBy path_cmp (paths es ++ d.path ∷ []) → Adds (Some x) found es new
    adds x same follows = subst (λ x. Adds (Some x) found es new) (sym same)
        (utf8, (named, (subst (IsStrictlySortedBy path_cmp) (sym (paths_more es d)) follows, more)))

    by_entry : (o before : Option Entry) → (o >>= if_after before) ≡ Some d → IsLast before es → Adds o found es new
    by_entry None before e last = absurd cc
    by_entry (Some x) None e last = let same : x ≡ d = cc in adds x same (precedes_first es d.path last)
    by_entry (Some x) (Some b) e last = by_test (is_lt (path_cmp b.path x.path)) refl e
      where
        by_test : (t : Bool) → is_lt (path_cmp b.path x.path) ≡ t → cond t (Some x) None ≡ Some d → Adds (Some x) found es new
        by_test true lt e = let same : x ≡ d = cc in
            adds x same (precedes_yes es b d.path last sorted (ap (λ x. is_lt (path_cmp b.path x.path)) (sym same) ∙ lt))
        by_test false off e = absurd cc

-- what a text tells, where it comes behind the one before it
behind_is : (v : Version) (before : Option Entry) (text : List ℕ) (d : Entry) → entry_behind v before text ≡ Some d → entry_at v text ≡ Some d
behind_is v before text d is = by_entry (entry_at v text) before refl (sym (after_is v before text) ∙ is)
  where
    by_entry : (o before : Option Entry) → entry_at v text ≡ o → (o >>= if_after before) ≡ Some d → entry_at v text ≡ Some d
    by_entry None before at e = absurd cc
    by_entry (Some x) None at e = at ∙ e
    by_entry (Some x) (Some b) at e = by_test (is_lt (path_cmp b.path x.path)) e
      where
        by_test : (t : Bool) → cond t (Some x) None ≡ Some d → entry_at v text ≡ Some d
        by_test true e = at ∙ e
        by_test false e = absurd cc

pub found_same : (v : Version) (before : Option Entry) (text behind : List ℕ) (d : Entry) (found : Option (List ℕ × List ℕ)) →
    entry_behind v before text ≡ Some d → found ≡ target_behind v d behind → found_at v text behind ≡ found
found_same v before text behind d found is read =
    ap (λ o. o >>= λ e. target_behind v e behind) (behind_is v before text d is) ∙ sym read

pub adds_found : (v : Version) (before : Option Entry) (text behind : List ℕ) (es new : List Entry) (d : Entry) (found : Option (List ℕ × List ℕ)) →
    entry_behind v before text ≡ Some d → found ≡ target_behind v d behind → IsUtf8 d.path → IfSome found (λ f. IsUtf8 f.0) → IsLast before es →
    IsStrictlySortedBy path_cmp (paths es) → new ≡ es ++ with_target d found ∷ [] → Adds (entry_at v text) (found_at v text behind) es new
adds_found v before text behind es new d found is read utf8 named last sorted more =
    subst (λ f. Adds (entry_at v text) f es new) (sym (found_same v before text behind d found is read))
    (some_behind v before text es new d found is utf8 named last sorted more)

pub read_utf8 : {A B : Type 0} (f : A → B) (P : A → Type 0) (Q : B → Type 0) (o : Option A) → ((x : A) → P x → Q (f x)) → IfSome o P →
    IfSome (option_map f o) Q
read_utf8 f P Q None h p = tt
read_utf8 f P Q (Some x) h p = h x p

-- ---- the header

no_list : IsList []
no_list = record { count = omega arith; each = tt; ascend = sorted_none path_cmp }

refused_first : (bytes : List ℕ) → ((v : Version) → take 1 (lines_of bytes) ≡ line (header_text v) ∷ [] → ⊥) → IsRefused bytes 1
refused_first bytes off = record {
  damaged = record {
    first = omega arith;
    before = record { version = Two; entries = []; list = no_list; known = tt; same = refl };
    through = λ b. off b.version b.same;
  };
  short = λ t. off t.version (ap (take 1) t.text);
}

first_line : (text rest bytes : List ℕ) → cut 10 bytes ≡ Some (text, rest) → lines_of bytes ≡ line text ∷ lines_of rest
first_line text rest bytes e = let parts = cut_takes 10 bytes text rest e in ap lines_of parts.parts ∙ line_first text rest parts.free

pub header_none : (bytes : List ℕ) → cut 10 bytes ≡ None → IsRefused bytes 1
header_none bytes e = refused_first bytes (λ v. torn bytes (header_text v) (free_uncut 10 bytes e))

pub header_other : (bytes text rest : List ℕ) → cut 10 bytes ≡ Some (text, rest) → ((v : Version) → text ≡ header_text v → ⊥) →
    IsRefused bytes 1
header_other bytes text rest e off = refused_first bytes (λ v one. off v
    (line_same text (header_text v) (cons_parts (line text) (line (header_text v)) [] [] (ap (take 1) (sym (first_line text rest bytes e)) ∙ one)).0))

pub starts : (v : Version) (bytes rest : List ℕ) → cut 10 bytes ≡ Some (header_text v, rest) → Stands v bytes [] (lines_of rest)
starts v bytes rest e = record { list = no_list; known = tt; text = first_line (header_text v) rest bytes e }

-- ---- a line

-- what was read before a line, the line's text, and what stands behind it
pub record Reads (v : Version) (bytes rest text behind : List ℕ) (es : List Entry) : Type 0 where
  pub stands : Stands v bytes es (lines_of rest)
  pub few : length es ≤ max_entries
  pub first : cut 10 rest ≡ Some (text, behind)

pub line_is : (rest : List ℕ) → target_line rest ≡ (cut 10 rest >>= λ parts. target_and (target_at parts.0) parts.1)
unfolding target_line
line_is rest = refl

-- an entry and the target behind it, as they stand in a text
record IsItem (v : Version) (d : Entry) (behind : List ℕ) (found : Option (List ℕ × List ℕ)) : Type 0 where
  entry : IsEntry (with_target d found)
  known : IsKnown v (with_target d found)
  lines : line (text_of d) ∷ lines_of behind ≡ lines_by (with_target d found) ++ lines_of (behind_target behind found)
  many : length (lines_by (with_target d found)) ≡ line_count found

bare_item : (v : Version) (d : Entry) (behind : List ℕ) → IsLine v d → IsItem v d behind None
bare_item v d behind is = record {
  entry = is.entry;
  known = is.known;
  lines = (λ i. line (text_of d) ∷ (target_lines (sym is.none i) ++ lines_of behind));
  many = ap (λ o. length (line (text_of d) ∷ target_lines o)) is.none;
}

-- a target is told of an entry that takes one
shaped_with : (d : Entry) (t : List ℕ) → is_shaped d ≡ true → has_target d.mark d.stat ≡ true →
    is_shaped (let e : Entry = record d { target = Some t } in e) ≡ true
shaped_with d t shape has =
    and_from (has_target d.mark d.stat) (is_sized d.stat && shape_by d.mark d.stat (d.unnamed == 0 && d.far == 0)) has
    (and_parts (is_none d.target || has_target d.mark d.stat) (is_sized d.stat && shape_by d.mark d.stat (d.unnamed == 0 && d.far == 0)) shape).1

known_with : (v : Version) (d : Entry) (t : List ℕ) → is_known v d ≡ true → is_new v ≡ true →
    is_known v (let e : Entry = record d { target = Some t } in e) ≡ true
known_with v d t known new =
    and_from (is_new v) (is_marked v d.mark d.stat) new (and_parts (is_none d.target || is_new v) (is_marked v d.mark d.stat) known).1

item : Undoes → (v : Version) (d : Entry) (behind : List ℕ) (found : Option (List ℕ × List ℕ)) → IsLine v d → IfSome found (λ f. IsUtf8 f.0) →
    target_behind v d behind ≡ found → IsItem v d behind found
item undoes v d behind None is utf8 e = bare_item v d behind is
item undoes v d behind (Some f) is utf8 e = by_test (takes_target v d) refl e
  where
    by_line : takes_target v d ≡ true → (o : Option (List ℕ × List ℕ)) → cut 10 behind ≡ o →
        (o >>= λ parts. target_and (target_at parts.0) parts.1) ≡ Some f →
        IsItem v d behind (Some f)
    by_line so None first e = absurd cc
    by_line so (Some parts) first e = by_text (target_at parts.0) refl e
      where
        by_text : (o : Option (List ℕ)) → target_at parts.0 ≡ o → target_and o parts.1 ≡ Some f → IsItem v d behind (Some f)
        by_text None at e = absurd cc
        by_text (Some t) at e =
            let same = pair_is t f.0 parts.1 f.1 e in
            let takes = target_takes undoes.links parts.0 f.0 (at ∙ ap Some same.0) utf8 in
            let both = and_parts (is_new v) (has_target d.mark d.stat) so in
            record {
              entry = record {
                path = is.entry.path;
                utf8 = is.entry.utf8;
                target = takes.1;
                shape = shaped_with d f.0 is.entry.shape both.1;
                size = is.entry.size;
                time = is.entry.time;
                unnamed = is.entry.unnamed;
                far = is.entry.far;
              };
              known = known_with v d f.0 is.known both.0;
              lines = ap (λ ls. line (text_of d) ∷ ls) (first_line parts.0 parts.1 behind first
                  ∙ (λ i. line (takes.0 i) ∷ lines_of (same.1 i)));
              many = refl;
            }

    by_test : (b : Bool) → takes_target v d ≡ b → cond b (target_line behind) None ≡ Some f → IsItem v d behind (Some f)
    by_test true so e = by_line so (cut 10 behind) refl (sym (line_is behind) ∙ e)
    by_test false so e = absurd cc

same_path : (d : Entry) (found : Option (List ℕ × List ℕ)) → (with_target d found).path ≡ d.path
same_path d None = refl
same_path d (Some f) = refl

-- what is so of a text once a line was read, and what was found behind it
pub record GoesOn (v : Version) (bytes behind : List ℕ) (found : Option (List ℕ × List ℕ)) (es fs : List Entry) : Type 0 where
  pub stands : Stands v bytes fs (lines_of (behind_target behind found))
  pub lines : length (entry_lines fs) ≡ length (entry_lines es) + line_count found
  pub settled : (last : Option Entry) → IsLast last fs → IsSettled v last (behind_target behind found)

settles : (v : Version) (d : Entry) (behind : List ℕ) (found : Option (List ℕ × List ℕ)) → target_behind v d behind ≡ found →
    IsSettled v (Some (with_target d found)) (behind_target behind found)
settles v d behind None e none = e
settles v d behind (Some f) e none = absurd (false≢true none)

pub goes_on : {v : Version} {bytes rest text behind : List ℕ} {es : List Entry} → Undoes → Reads v bytes rest text behind es →
    (fs : List Entry) → Adds (entry_at v text) (found_at v text behind) es fs → GoesOn v bytes behind (found_at v text behind) es fs
goes_on {v} {bytes} {rest} {text} {behind} {es} undoes r fs adds = by_entry (entry_at v text) refl adds
  where
    by_entry : (o : Option Entry) → entry_at v text ≡ o → Adds o (o >>= λ e. target_behind v e behind) es fs →
        GoesOn v bytes behind (o >>= λ e. target_behind v e behind) es fs
    by_entry None is adds = absurd adds
    by_entry (Some d) is adds =
        let found = target_behind v d behind in
        let whole = with_target d found in
        let taken = entry_takes undoes.paths v text d is adds.0 in
        let it = item undoes v d behind found taken.1 adds.1.0 refl in
        let few = r.few in
        let follows : Follows es whole = subst (IsStrictlySortedBy path_cmp)
        (paths_more es d ∙ ap (λ p. paths es ++ p ∷ []) (sym (same_path d found)) ∙ sym (paths_more es whole)) adds.1.1.0 in
        let list = list_more es whole r.stands.list it.entry follows (omega arith) in
        let known = all_more (IsKnown v) es whole r.stands.known it.known in
        let here : lines_of rest ≡ lines_by whole ++ lines_of (behind_target behind found) =
        first_line text behind rest r.first ∙ ap (λ t. line t ∷ lines_of behind) taken.0 ∙ it.lines in
        let grown : entry_lines (es ++ whole ∷ []) ++ lines_of (behind_target behind found)
        ≡ entry_lines es ++ (lines_by whole ++ lines_of (behind_target behind found)) =
        ap (λ l. l ++ lines_of (behind_target behind found)) (lines_more es whole)
        ∙ append_assoc (entry_lines es) (lines_by whole) (lines_of (behind_target behind found)) in
        let text_is : lines_of bytes ≡ line (header_text v) ∷ (entry_lines (es ++ whole ∷ []) ++ lines_of (behind_target behind found)) =
        r.stands.text ∙ ap (λ l. line (header_text v) ∷ (entry_lines es ++ l)) here ∙ ap (λ l. line (header_text v) ∷ l) (sym grown) in
        let more : fs ≡ es ++ whole ∷ [] = adds.1.1.1 in
        record {
          stands = subst (λ l. Stands v bytes l (lines_of (behind_target behind found))) (sym more) (record { list = list; known = known; text = text_is });
          lines = ap (λ l. length (entry_lines l)) more ∙ ap length (lines_more es whole) ∙ length-append (entry_lines es) (lines_by whole)
              ∙ ap (λ n. length (entry_lines es) + n) it.many;
          settled = λ last is_last.
              let same : last ≡ Some whole = sym is_last ∙ last_is es fs whole more in
              subst (λ o. IsSettled v o (behind_target behind found)) (sym same) (settles v d behind found refl);
        }

line_torn : (rest : List ℕ) (p : Piece) → IsFree 10 rest → take 1 (lines_of rest) ≡ piece_line p ∷ [] → ⊥
line_torn rest (own d) free one = torn rest (text_of d) free one
line_torn rest (target t) free one = torn rest (target_text t) free one

pub bad_torn : (v : Version) (bytes rest : List ℕ) (es : List Entry) → Undoes → Stands v bytes es (lines_of rest) → cut 10 rest ≡ None →
    length es ≤ max_entries → IsRefused bytes (length (entry_lines es) + 2)
bad_torn v bytes rest es undoes s e few =
    let free = free_uncut 10 rest e in
    refused_here undoes v bytes es (lines_of rest) s (record {
      item = λ p behind is f one. line_torn rest p free one;
      end = λ one. torn rest (end_text (own_count (pieces_of es))) free one;
    }) few

pub bad_text : {v : Version} {bytes rest text behind : List ℕ} {es : List Entry} → Undoes → Reads v bytes rest text behind es →
    (last : Option Entry) → IsLast last es → IsSettled v last rest →
    (end_at text ≡ Some (length es) → ⊥) → NoneFollows (entry_at v text) es → IsRefused bytes (length (entry_lines es) + 2)
bad_text {v} {bytes} {rest} {text} {behind} {es} undoes r last is_last settled no_end none =
    refused_here undoes v bytes es (lines_of rest) r.stands (record {
      item = λ p behind is follows one. none_next p is follows one;
      end = λ one. no_end (ap end_at (text_is (end_text (own_count (pieces_of es))) one) ∙ ap (λ n. end_at (end_text n)) (own_is es)
          ∙ end_again (length es) r.stands.list.count);
    }) r.few
  where
    text_is : (word : List ℕ) → take 1 (lines_of rest) ≡ line word ∷ [] → text ≡ word
    text_is word one =
        let first = ap (take 1) (first_line text behind rest r.first) in
        line_same text word (cons_parts (line text) (line word) [] [] (sym first ∙ one)).0

    follows_none : (d : Entry) → entry_at v text ≡ Some d → Follows es d → ⊥
    follows_none d at follows = let h = subst (λ o. NoneFollows o es) at none in h follows

    no_target : (t : List ℕ) → text ≡ target_text t → IsTarget t → TakesTarget v es t → ⊥
    no_target t same is takes =
        let own : last ≡ Some takes.last = sym is_last ∙ last_is takes.front es takes.last takes.parts in
        let off : target_behind v takes.last rest ≡ None =
        subst (λ o. IsSettled v o rest) own settled (ap is_none takes.none) in
        let found : target_behind v takes.last rest ≡ Some (t, behind) =
        ap (λ b. cond b (target_line rest) None) takes.takes
        ∙ line_is rest
        ∙ ap (λ o. o >>= λ parts. target_and (target_at parts.0) parts.1) r.first
        ∙ ap (λ o. target_and o behind) (ap target_at same ∙ target_again undoes.links t is) in
        let both : None ≡ Some (t, behind) = sym off ∙ found in
        absurd cc

    none_next : (p : Piece) → IsPiece v p → IsFile v (pieces_of es ++ p ∷ []) → take 1 (lines_of rest) ≡ piece_line p ∷ [] → ⊥
    none_next (own d) is follows one =
        let more : es ++ d ∷ [] ≡ follows.entries = one_list (es ++ d ∷ []) follows.entries (bare_more es d is.none ∙ follows.same) in
        follows_none d (ap (entry_at v) (text_is (text_of d) one) ∙ entry_again undoes.paths v d is)
        (subst (λ l. IsStrictlySortedBy path_cmp (paths l)) (sym more) follows.list.ascend)
    none_next (target t) is follows one = no_target t (text_is (target_text t) one) is.1 (target_follows v es t follows)

-- ---- the end

end_first : (rest text behind : List ℕ) (n : ℕ) → cut 10 rest ≡ Some (text, behind) → end_at text ≡ Some n →
    lines_of rest ≡ line (end_text n) ∷ lines_of behind
end_first rest text behind n e end = first_line text behind rest e ∙ ap (λ t. line t ∷ lines_of behind) (end_takes text n end).0

pub at_end : {v : Version} {bytes rest text behind : List ℕ} {es : List Entry} → Reads v bytes rest text behind es →
    end_at text ≡ Some (length es) → length behind ≡ 0 → Spells bytes es
at_end {v} {bytes} {rest} {text} {behind} {es} r end none =
    let empty : behind ≡ [] = nil_from_length behind none in
    let is = end_first rest text behind (length es) r.first end ∙ ap (λ b. line (end_text (length es)) ∷ lines_of b) empty in
    record { version = v; spells = spelled v bytes es (subst (Stands v bytes es) is r.stands) }

pub past_end : {v : Version} {bytes rest text behind : List ℕ} {es : List Entry} → Undoes → Reads v bytes rest text behind es →
    end_at text ≡ Some (length es) → 0 < length behind → IsRefused bytes (length (entry_lines es) + 3)
past_end {v} {bytes} {rest} {text} {behind} {es} undoes r end some = by_lines (lines_of behind) refl
  where
    by_lines : (ls : List (List ℕ)) → lines_of behind ≡ ls → IsRefused bytes (length (entry_lines es) + 3)
    by_lines [] is = let none = ap length (no_lines behind is) in absurd (omega arith)
    by_lines (m ∷ ms) is =
        let lines = end_first rest text behind (length es) r.first end ∙ ap (λ ls. line (end_text (length es)) ∷ ls) is in
        refused_after undoes v bytes es m ms (subst (Stands v bytes es) lines r.stands) r.few

pub too_long : (v : Version) (bytes : List ℕ) (es : List Entry) (more : List (List ℕ)) → Stands v bytes es more → length es ≡ max_entries + 1 →
    IsTooLong bytes
too_long v bytes es more s many = record { version = v; entries = es; list = s.list; known = s.known; many = many; rest = more; text = s.text }

-- ---- tests that are turned around

pub is_not : (b : Bool) → not b ≡ true → b ≡ false
is_not true e = absurd (false≢true e)
is_not false e = refl

pub is_so : (b : Bool) → not b ≡ false → b ≡ true
is_so true e = refl
is_so false e = absurd (false≢true (sym e))

pub ruleset nots = (is_not, is_so)
