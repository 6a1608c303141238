-- The names of the children, as a loop over the entries finds them.
use Rattle.files_mem.proofs.Prelude.{◌≡◌, ℕ, ◌<◌, ◌≤◌, Bool, true, false, ◌&&◌, ◌⊎◌, inl, inr, List, [], ◌∷◌, ◌++◌, length, map, refl, ap, ◌∙◌, sym, subst}
use Rattle.files_mem.proofs.Prelude.{arith, cond, eqb, Some, None, append_assoc, append-nil, suc, false≢true, filter_map, AllByRecursion, cons_option}
use Rattle.files_mem.proofs.Prelude.{starts_with, IsStrictlySortedBy, keys_of, sorted_head, sorted_tail, is_le, Ordering, Less, Equal, Greater, Included}
use Rattle.files_mem.proofs.Prelude.{Unbounded, entries_between, range_contains, path_cmp, front, before_all, path_cmp_total, refusal, is_one_name, name_below}
use Rattle.files_mem.proofs.Prelude.{Node, names_in, name_below-front, entries, put, entries-insert, len-entries, len-empty, by_order, ordering_reverse}
use Rattle.files_mem.proofs.Prelude.{files_of, node_of, nil_from_length}
use Rattle.files_mem.proofs.Between.{below_past, none_between, child_from, none_past, past_more, none_long, past_front}
use Rattle.files_mem.specs.declared.nodes.Node as stored

abbrev pub Entries : Type 0
Entries = List (List ℕ × stored.Node)

abbrev pub names : List ℕ → Entries → List (List ℕ)
names p es = filter_map (λ e. name_below p e.0) es

abbrev pub told : List ℕ × stored.Node → List ℕ × Node
told e = (e.0, node_of e.1)

-- es is the end of all
abbrev pub IsEnd : Entries → Entries → Type 0
IsEnd all es = (before : Entries) × (all ≡ before ++ es)

abbrev pub from : List ℕ → Entries → Entries
from at es = entries_between path_cmp (Included at) Unbounded es

abbrev pub reach : List ℕ → List ℕ → Bool
reach at q = range_contains path_cmp (Included at) Unbounded q

pub reach_is : (at q : List ℕ) → reach at q ≡ is_le (path_cmp at q)
reach_is at q = elim (is_le (path_cmp at q)) as (λ b. (b && true) ≡ b) [ true ↦ refl | false ↦ refl ]

le_less : (a b d : List ℕ) → is_le (path_cmp a b) ≡ true → path_cmp b d ≡ Less → is_le (path_cmp a d) ≡ true
le_less a b d e l =
    elim (path_cmp a b) as (λ r. path_cmp a b ≡ r → is_le r ≡ true → is_le (path_cmp a d) ≡ true) [
      | Less ↦ λ is h. ap is_le (path_cmp_total.trans a b d is l)
      | Equal ↦ λ is h. ap is_le (path_cmp_total.congr a b d is ∙ l)
      | Greater ↦ λ is h. absurd (false≢true h)
    ] refl e

less_not : (a b : List ℕ) → path_cmp a b ≡ Less → reach b a ≡ false
less_not a b l = reach_is b a ∙ ap is_le (path_cmp_total.antisymm b a ∙ ap ordering_reverse l)

not_le : (o : Ordering) → is_le o ≡ false → o ≡ Greater
not_le Less e = absurd (false≢true (sym e))
not_le Equal e = absurd (false≢true (sym e))
not_le Greater e = refl

abbrev pub IsSorted : Entries → Type 0
IsSorted es = IsStrictlySortedBy path_cmp (keys_of es)

abbrev pub AllAfter : List ℕ → Entries → Type 0
AllAfter k es = AllByRecursion (λ y. path_cmp k y ≡ Less) (keys_of es)

abbrev pub AllValid : Entries → Type 0
AllValid es = AllByRecursion (λ e. refusal e.0 ≡ None) es

abbrev pub AllReady : List ℕ → Entries → Type 0
AllReady least es = AllByRecursion (λ e. is_le (path_cmp least e.0) ≡ true) es

all_reach : (at k : List ℕ) (es : Entries) → is_le (path_cmp at k) ≡ true → AllAfter k es → from at es ≡ es
all_reach at k [] h a = refl
all_reach at k (e ∷ es) h a =
    ap (λ b. cond b (e ∷ from at es) (from at es)) (reach_is at e.0 ∙ le_less at k e.0 h a.0)
    ∙ ap (λ r. e ∷ r) (all_reach at k es h a.1)

-- the entries from `at` on are an end
pub from_end : (at : List ℕ) (all : Entries) → IsSorted all → IsEnd all (from at all)
from_end at [] s = ([], refl)
from_end at (e ∷ all) s =
    elim (reach at e.0) as (λ b. reach at e.0 ≡ b → IsEnd (e ∷ all) (cond b (e ∷ from at all) (from at all))) [
      | true ↦ λ is. ([], ap (λ r. e ∷ r) (sym (all_reach at e.0 all (sym (reach_is at e.0) ∙ is) (sorted_head path_cmp e.0 (keys_of all) s))))
      | false ↦ λ is. let r = from_end at all (sorted_tail path_cmp e.0 (keys_of all) s) in (e ∷ r.0, ap (λ t. e ∷ t) r.1)
    ] refl

all_mid : (P : List ℕ → Type 0) (before : Entries) (e : List ℕ × stored.Node) (rest : Entries) → AllByRecursion P (keys_of (before ++ e ∷ rest)) → P e.0
all_mid P [] e rest a = a.0
all_mid P (b ∷ before) e rest a = all_mid P before e rest a.1

pub all_end : (P : List ℕ × stored.Node → Type 0) (before es : Entries) → AllByRecursion P (before ++ es) → AllByRecursion P es
all_end P [] es a = a
all_end P (b ∷ before) es a = all_end P before es a.1

pub sorted_end : (before es : Entries) → IsSorted (before ++ es) → IsSorted es
sorted_end [] es s = s
sorted_end (b ∷ before) es s = sorted_end before es (sorted_tail path_cmp b.0 (keys_of (before ++ es)) s)

off : (at : List ℕ) (e : List ℕ × stored.Node) (es : Entries) → path_cmp e.0 at ≡ Less → from at (e ∷ es) ≡ from at es
off at e es l = ap (λ b. cond b (e ∷ from at es) (from at es)) (less_not e.0 at l)

-- from a place past an entry on: what stands before it does not matter
from_behind : (at : List ℕ) (before : Entries) (e : List ℕ × stored.Node) (rest : Entries) → IsSorted (before ++ e ∷ rest) →
    path_cmp e.0 at ≡ Less → from at (before ++ e ∷ rest) ≡ from at rest
from_behind at [] e rest s l = off at e rest l
from_behind at (b ∷ before) e rest s l =
    let later = all_mid (λ y. path_cmp b.0 y ≡ Less) before e rest (sorted_head path_cmp b.0 (keys_of (before ++ e ∷ rest)) s) in
    off at b (before ++ e ∷ rest) (path_cmp_total.trans b.0 e.0 at later l)
    ∙ from_behind at before e rest (sorted_tail path_cmp b.0 (keys_of (before ++ e ∷ rest)) s) l

-- what is passed over holds no child
names_past : (p k m : List ℕ) (rest : Entries) → k ≡ front p ++ m → AllAfter k rest → AllValid rest → names p (from (k ++ 1 ∷ []) rest) ≡ names p rest
names_past p k m [] e a v = refl
names_past p k m (x ∷ rest) e a v =
    let more = names_past p k m rest e a.1 v.1 in
    let past : List ℕ = k ++ 1 ∷ [] in
    elim (reach past x.0) as (λ b. reach past x.0 ≡ b → names p (cond b (x ∷ from past rest) (from past rest)) ≡ names p (x ∷ rest)) [
      | true ↦ λ is. ap (λ r. cons_option (name_below p x.0) r) more
      | false ↦ λ is.
          let after = not_le (path_cmp past x.0) (sym (reach_is past x.0) ∙ is) in
          more ∙ ap (λ o. cons_option o (names p rest)) (sym (none_between p k m x.0 e a.0 after v.0))
    ] refl

names_from_least : (p : List ℕ) (es : Entries) → AllValid es → names p (from (front p ++ 1 ∷ []) es) ≡ names p es
names_from_least p [] v = refl
names_from_least p (x ∷ es) v =
    let more = names_from_least p es v.1 in
    let least : List ℕ = front p ++ 1 ∷ [] in
    elim (reach least x.0) as (λ b. reach least x.0 ≡ b → names p (cond b (x ∷ from least es) (from least es)) ≡ names p (x ∷ es)) [
      | true ↦ λ is. ap (λ r. cons_option (name_below p x.0) r) more
      | false ↦ λ is. more ∙ ap (λ o. cons_option o (names p es)) (sym (none_before (sym (reach_is least x.0) ∙ is)))
    ] refl
  where
    none_before : is_le (path_cmp (front p ++ 1 ∷ []) x.0) ≡ false → name_below p x.0 ≡ None
    none_before l =
        elim (name_below p x.0) as (λ o. name_below p x.0 ≡ o → o ≡ None) [
          | None ↦ λ e. refl
          | Some m ↦ λ e. absurd (false≢true (sym l ∙ child_from p x.0 m e v.0))
        ] refl

pub ready_from : (at : List ℕ) (es : Entries) → AllReady at (from at es)
ready_from at [] = tt
ready_from at (x ∷ es) =
    elim (reach at x.0) as (λ b. reach at x.0 ≡ b → AllReady at (cond b (x ∷ from at es) (from at es))) [
      | true ↦ λ is. (sym (reach_is at x.0) ∙ is, ready_from at es)
      | false ↦ λ is. ready_from at es
    ] refl

still_ready : (least at : List ℕ) (es : Entries) → AllReady least es → AllReady least (from at es)
still_ready least at [] a = tt
still_ready least at (x ∷ es) a =
    elim (reach at x.0) as (λ b. AllReady least (cond b (x ∷ from at es) (from at es))) [
      | true ↦ (a.0, still_ready least at es a.1)
      | false ↦ still_ready least at es a.1
    ]

names_stop : (p k : List ℕ) (es : Entries) → before_all (front p) k ≡ true → AllAfter k es → names p es ≡ []
names_stop p k [] e a = refl
names_stop p k (x ∷ es) e a = ap (λ o. cons_option o (names p es)) (none_past p x.0 (past_more (front p) k x.0 e a.0)) ∙ names_stop p k es e a.1

pub names_long : (p : List ℕ) (es : Entries) → 4095 < length (front p ++ 1 ∷ []) → AllValid es → names p es ≡ []
names_long p [] l v = refl
names_long p (x ∷ es) l v = ap (λ o. cons_option o (names p es)) (none_long p x.0 l v.0) ∙ names_long p es l v.1

put_first : (k : List ℕ) (v : Node) (es : Entries) → AllAfter k es → put path_cmp k v (map told es) ≡ (k, v) ∷ map told es
put_first k v [] a = refl
put_first k v (e ∷ es) a = ap (λ o. by_order o ((k, v) ∷ told e ∷ map told es) ((e.0, v) ∷ map told es) (told e ∷ put path_cmp k v (map told es))) a.0

-- the entries of the tree are those of the map
pub entries_of : (es : Entries) → IsSorted es → entries (files_of es) ≡ map told es
entries_of [] s = no_entries
  where
    no_entries : entries (files_of []) ≡ []
    no_entries = nil_from_length (entries (files_of [])) (sym (len-entries (files_of [])) ∙ len-empty path_cmp Node)
entries_of (e ∷ es) s =
    entries-insert path_cmp_total (files_of es) e.0 (node_of e.1)
    ∙ ap (put path_cmp e.0 (node_of e.1)) (entries_of es (sorted_tail path_cmp e.0 (keys_of es) s))
    ∙ put_first e.0 (node_of e.1) es (sorted_head path_cmp e.0 (keys_of es) s)

names_told : (p : List ℕ) (es : Entries) → filter_map (name_below p) (map (λ e. e.0) (map told es)) ≡ names p es
names_told p [] = refl
names_told p (e ∷ es) = ap (cons_option (name_below p e.0)) (names_told p es)

pub names_are : (p : List ℕ) (es : Entries) → IsSorted es → names_in (files_of es) p ≡ names p es
names_are p es s = ap (λ l. filter_map (name_below p) (map (λ e. e.0) l)) (entries_of es s) ∙ names_told p es

-- what is left, an entry later
one_less : (all before es : Entries) (e : List ℕ × stored.Node) (rest : Entries) → all ≡ before ++ es → es ≡ e ∷ rest → IsEnd all rest
one_less all before es e rest h g = (before ++ e ∷ [], h ∙ ap (λ r. before ++ r) g ∙ sym (append_assoc before (e ∷ []) rest))

after_this : (all before es : Entries) (e : List ℕ × stored.Node) (rest : Entries) → all ≡ before ++ es → es ≡ e ∷ rest → IsSorted all → AllAfter e.0 rest
after_this all before es e rest h g s = sorted_head path_cmp e.0 (keys_of rest) (sorted_end before (e ∷ rest) (subst IsSorted (h ∙ ap (λ r. before ++ r) g) s))

-- past what is under a child
skip_is : (all before es : Entries) (e : List ℕ × stored.Node) (rest : Entries) (past : List ℕ) → all ≡ before ++ es →
    es ≡ e ∷ rest → IsSorted all → past ≡ e.0 ++ 1 ∷ [] → from past all ≡ from past rest
skip_is all before es e rest past h g s q =
    let whole = h ∙ ap (λ r. before ++ r) g in
    ap (from past) whole ∙ from_behind past before e rest (subst IsSorted whole s) (ap (path_cmp e.0) q ∙ below_past e.0)

skip_names : (p n : List ℕ) (all before es : Entries) (e : List ℕ × stored.Node) (rest : Entries) (past : List ℕ) → all ≡ before ++ es →
    es ≡ e ∷ rest → IsSorted all → AllValid all → past ≡ e.0 ++ 1 ∷ [] → e.0 ≡ front p ++ n → names p (from past all) ≡ names p rest
skip_names p n all before es e rest past h g s v q k =
    ap (names p) (skip_is all before es e rest past h g s q) ∙ ap (λ a. names p (from a rest)) q
    ∙ names_past p e.0 n rest k (after_this all before es e rest h g s) valid.1
  where
    valid : AllValid (e ∷ rest)
    valid = all_end (λ e. refusal e.0 ≡ None) before (e ∷ rest) (subst AllValid (h ∙ ap (λ r. before ++ r) g) v)

from_short : (at : List ℕ) (es : Entries) → length (from at es) ≤ length es
from_short at [] = omega arith
from_short at (e ∷ es) =
    let more = from_short at es in
    elim (reach at e.0) as (λ b. length (cond b (e ∷ from at es) (from at es)) ≤ suc (length es)) [ true ↦ omega arith | false ↦ omega arith ]

-- the entries whose names are listed: those of a map of paths, from the least path that a child of p can have on
pub record Listable (p least : List ℕ) (all : Entries) : Type 0 where
  pub low : least ≡ front p ++ 1 ∷ []
  pub sorted : IsSorted all
  pub valid : AllValid all

-- how far the loop over all the entries has come: the names that are listed, and the entries that are left
pub record Reading (p least : List ℕ) (all left : Entries) (listed : List (List ℕ)) : Type 0 where
  pub so_far : listed ++ names p left ≡ names p all
  pub end : IsEnd all left
  pub ready : AllReady least left

pub reading_begins : {p least : List ℕ} {all : Entries} → Listable p least all → Reading p least all (from least all) []
reading_begins {p} {least} {all} given = record {
  so_far = ap (λ l. names p (from l all)) given.low ∙ names_from_least p all given.valid;
  end = from_end least all given.sorted;
  ready = ready_from least all;
}

-- the next entry is behind the front, and no child
pub reading_other : (n : List ℕ) {p least k : List ℕ} {all left rest : Entries} {listed : List (List ℕ)} {node : stored.Node} →
    Reading p least all left listed → left ≡ (k, node) ∷ rest → k ≡ front p ++ n → is_one_name n ≡ false → Reading p least all rest listed
reading_other n {p} {least} {k} {all} {left} {rest} {listed} {node} r next is other = record {
  so_far =
      ap (λ o. listed ++ cons_option o (names p rest)) (sym (name_below-front p k n is ∙ ap (λ b. cond b (Some n) None) other))
      ∙ ap (λ es. listed ++ names p es) (sym next) ∙ r.so_far;
  end = one_less all r.end.0 left (k, node) rest r.end.1 next;
  ready = (subst (AllReady least) next r.ready).1;
}

-- what is left behind a child, with what is under it or without
abbrev pub IsBehind : Entries → List ℕ → Entries → Entries → Type 0
IsBehind all k rest left = (left ≡ rest) ⊎ (left ≡ from (k ++ 1 ∷ []) all)

behind_short : {all left rest next : Entries} {k : List ℕ} {node : stored.Node} → IsEnd all left → left ≡ (k, node) ∷ rest → IsSorted all →
    IsBehind all k rest next → length next < length left
behind_short end is s (inl e) = omega (arith, ap length e, ap length is)
behind_short {all} {left} {rest} {next} {k} {node} end is s (inr e) =
    let skipped = ap length (e ∙ skip_is all end.0 left (k, node) rest (k ++ 1 ∷ []) end.1 is s refl) in
    omega (arith, skipped, from_short (k ++ 1 ∷ []) rest, ap length is)

pub reading_shorter : {p least k : List ℕ} {all left rest next : Entries} {listed : List (List ℕ)} {node : stored.Node} →
    Reading p least all left listed → left ≡ (k, node) ∷ rest → IsSorted all → IsBehind all k rest next → length next < length left
reading_shorter r is s b = behind_short r.end is s b

-- the next entry is a child
pub reading_child : (n : List ℕ) {p least k : List ℕ} {all left rest next : Entries} {listed : List (List ℕ)} {node : stored.Node} → Listable p least all →
    Reading p least all left listed → left ≡ (k, node) ∷ rest → k ≡ front p ++ n → is_one_name n ≡ true → IsBehind all k rest next →
    Reading p least all next (listed ++ n ∷ [])
reading_child n {p} {least} {k} {all} {left} {rest} {next} {listed} {node} given r is at one b = by b
  where
    past : List ℕ
    past = k ++ 1 ∷ []

    so_far : (listed ++ n ∷ []) ++ names p rest ≡ names p all
    so_far =
        append_assoc listed (n ∷ []) (names p rest)
        ∙ ap (λ o. listed ++ cons_option o (names p rest)) (sym (name_below-front p k n at ∙ ap (λ b. cond b (Some n) None) one))
        ∙ ap (λ es. listed ++ names p es) (sym is) ∙ r.so_far

    ready : AllReady least rest
    ready = (subst (AllReady least) is r.ready).1

    same_names : names p (from past all) ≡ names p rest
    same_names = skip_names p n all r.end.0 left (k, node) rest past r.end.1 is given.sorted given.valid refl at

    same_rest : from past all ≡ from past rest
    same_rest = skip_is all r.end.0 left (k, node) rest past r.end.1 is given.sorted refl

    by : IsBehind all k rest next → Reading p least all next (listed ++ n ∷ [])
    by (inl e) = record {
      so_far = ap (λ es. (listed ++ n ∷ []) ++ names p es) e ∙ so_far;
      end = subst (IsEnd all) (sym e) (one_less all r.end.0 left (k, node) rest r.end.1 is);
      ready = subst (AllReady least) (sym e) ready;
    }
    by (inr e) = record {
      so_far = ap (λ es. (listed ++ n ∷ []) ++ names p es) e ∙ ap (λ ns. (listed ++ n ∷ []) ++ ns) same_names ∙ so_far;
      end = subst (IsEnd all) (sym e) (from_end past all given.sorted);
      ready = subst (AllReady least) (sym (e ∙ same_rest)) (still_ready least past rest ready);
    }

-- the next entry is past the front
pub reading_stops : {p least k : List ℕ} {all left rest : Entries} {listed : List (List ℕ)} {node : stored.Node} → Listable p least all →
    Reading p least all left listed → left ≡ (k, node) ∷ rest → starts_with eqb k (front p) ≡ false → listed ≡ names p all
reading_stops {p} {least} {k} {all} {left} {rest} {listed} {node} given r is off =
    let from_least : is_le (path_cmp (front p ++ 1 ∷ []) k) ≡ true = ap (λ l. is_le (path_cmp l k)) (sym given.low) ∙ (subst (AllReady least) is r.ready).0 in
    let past : before_all (front p) k ≡ true = past_front (front p) (1 ∷ []) k from_least off in
    let later = after_this all r.end.0 left (k, node) rest r.end.1 is given.sorted in
    sym (append-nil listed)
    ∙ ap (λ ns. listed ++ ns) (sym (ap (λ o. cons_option o (names p rest)) (none_past p k past) ∙ names_stop p k rest past later))
    ∙ ap (λ es. listed ++ names p es) (sym is) ∙ r.so_far

-- no entry is left
pub reading_ends : {p least : List ℕ} {all left : Entries} {listed : List (List ℕ)} → Reading p least all left listed → left ≡ [] →
    listed ≡ names p all
reading_ends {p} {least} {all} {left} {listed} r none =
    sym (append-nil listed) ∙ ap (λ es. listed ++ names p es) (sym none) ∙ r.so_far
