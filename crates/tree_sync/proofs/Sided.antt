-- A side tells the tree at its paths.
use Rattle.tree_sync.proofs.Prelude.{◌≡◌, ℕ, Bool, true, false, not, ◌&&◌, List, Option, Some, None, IfSome, refl, ap, ◌∙◌, sym, subst, nat_eq, is_some, IsTrue}
use Rattle.tree_sync.proofs.Prelude.{is_none, get, All, Contains, option_map, pointwise, bytes_decides, false≢true, and_parts, All-contains, below_of, grafted}
use Rattle.tree_sync.proofs.Prelude.{is_within, refusal, graft_undoes_below, Files, Node, IsTree, NodesHavePaths, link_at, stat_of, Stat, Entry, stat_at, Side}
use Rattle.tree_sync.proofs.Prelude.{side, IsSide, entry_at, is_gone, AreTold}
use Rattle.tree_sync.proofs.Members.{found_by}

abbrev pub StatTold : Files → Entry → Type 0
StatTold files e = IfSome e.stat (λ stat. option_map stat_of (get files e.path) ≡ Some stat)

abbrev pub TextTold : Files → Entry → Type 0
TextTold files e = IfSome e.target (λ text. link_at (get files e.path) ≡ Some text)

-- an entry within a top tells the node at its path
pub record IsTold (files : Files) (top : List ℕ) (e : Entry) : Type 0 where
  pub within : is_within e.path top ≡ true
  pub stat : StatTold files e
  pub text : TextTold files e

pub all_told : (files : Files) (top : List ℕ) (list : List Entry) → IsSide (side top list) → AreTold files list → All (IsTold files top) list
all_told files top list s t = λ k d l. record { within = s.within k d l; stat = t.stats k d l; text = t.targets k d l }

pub if_some : {X : Type 0} (P : X → Type 0) (o : Option X) (x : X) → o ≡ Some x → IfSome o P → P x
if_some P o x is h = subst (λ o. IfSome o P) is h

pub some_of : {X : Type 0} (o : Option X) → is_some o ≡ true → (x : X) × (o ≡ Some x)
some_of None e = absurd (false≢true e)
some_of (Some x) e = (x, refl)

-- a node at a path
pub record Stands (files : Files) (q : List ℕ) (st : Stat) : Type 0 where
  pub node : Node
  pub there : get files q ≡ Some node
  pub stat : stat_of node ≡ st

pub stands_by : (files : Files) (q : List ℕ) (st : Stat) → option_map stat_of (get files q) ≡ Some st → Stands files q st
stands_by files q st e = by (get files q) refl e
  where
    by : (o : Option Node) → get files q ≡ o → option_map stat_of o ≡ Some st → Stands files q st
    by None is e = absurd (cc)
    by (Some n) is e = record { node = n; there = is; stat = cc }

pub stands_at : (files : Files) (e : Entry) (st : Stat) → e.stat ≡ Some st → StatTold files e → Stands files e.path st
stands_at files e st is told = stands_by files e.path st (if_some (λ stat. option_map stat_of (get files e.path) ≡ Some stat) e.stat st is told)

-- so its path is one
pub valid_of : NodesHavePaths → (files : Files) → IsTree files → (e : Entry) → is_some e.stat ≡ true → StatTold files e → refusal e.path ≡ None
valid_of law files tree e some told =
    let st = some_of e.stat some in
    let s = stands_at files e st.0 st.1 told in
    law files e.path tree (ap is_none s.there)

-- the entry with a stat that a side has at a path below its top
pub record Has (s : Side) (p : List ℕ) (st : Stat) : Type 0 where
  pub entry : Entry
  pub at : entry_at s p ≡ Some entry
  pub is_in : Contains s.entries entry
  pub stat : entry.stat ≡ Some st
  pub below : below_of entry.path s.top ≡ p
  pub path : entry.path ≡ grafted s.top p

-- the entry that a side has there
pub record HasEntry (s : Side) (p : List ℕ) (entry : Entry) : Type 0 where
  pub is_in : Contains s.entries entry
  pub there : is_gone entry.mark ≡ false
  pub below : below_of entry.path s.top ≡ p
  pub path : entry.path ≡ grafted s.top p

pub entry_of : (s : Side) → IsSide s → (p : List ℕ) (e : Entry) → entry_at s p ≡ Some e → HasEntry s p e
entry_of s sided p e at =
    let f = found_by (λ e. not (is_gone e.mark) && pointwise nat_eq (below_of e.path s.top) p) s.entries e at in
    let both = and_parts (not (is_gone e.mark)) (pointwise nat_eq (below_of e.path s.top) p) f.so in
    let below = (bytes_decides (below_of e.path s.top) p).0 both.1 in
    record {
      is_in = f.is_in;
      there = off (is_gone e.mark) both.0;
      below = below;
      path = sym (graft_undoes_below e.path s.top (All-contains (λ e. IsTrue (is_within e.path s.top)) s.entries e sided.within f.is_in))
          ∙ ap (grafted s.top) below;
    }
  where
    off : (b : Bool) → not b ≡ true → b ≡ false
    off true e = absurd (false≢true e)
    off false e = refl

pub has_at : (s : Side) → IsSide s → (p : List ℕ) (st : Stat) → stat_at (entry_at s p) ≡ Some st → Has s p st
has_at s sided p st e = by (entry_at s p) refl e
  where
    by : (o : Option Entry) → entry_at s p ≡ o → stat_at o ≡ Some st → Has s p st
    by None is e = absurd (cc)
    by (Some x) is e =
        let h = entry_of s sided p x is in
        record { entry = x; at = is; is_in = h.is_in; stat = e; below = h.below; path = h.path }

-- a node stands there with that stat
pub has_node : (s : Side) (files : Files) → AreTold files s.entries → (p : List ℕ) (st : Stat) → Has s p st → Stands files (grafted s.top p) st
has_node s files told p st h =
    subst (λ q. Stands files q st) h.path (stands_at files h.entry st h.stat (All-contains (StatTold files) s.entries h.entry told.stats h.is_in))
