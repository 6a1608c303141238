-- Nodes that are alike: by their kinds, and as copies.
use Rattle.tree_sync.proofs.Prelude.{◌≡◌, ◌⊎◌, inl, inr, ℕ, Bool, true, false, not, cond, List, [], length, Option, Some, None, refl, ap, ◌∙◌, sym, is_some}
use Rattle.tree_sync.proofs.Prelude.{nat_lt, get, false≢true, not-false, Files, Node, Body, dir, file, link, other, bytes_of, content, kind_of, link_at}
use Rattle.tree_sync.proofs.Prelude.{size_of, text_of, Kind, Stat, Entry, is_kind, is_of, Fate, Pair, IsCopied, IsCopyOf, body_of, clashes, due, is_untold}
use Rattle.tree_sync.proofs.Prelude.{or_else, parent_failed, target_of, AreAlike}
use Rattle.outside.specs.declared.trees.Kind.TheVariants as kind
use Rattle.level_work.specs.declared.items.Fate.TheVariants as fate
use Rattle.tree_sync.proofs.Both.{kind_eq}

-- a body is of one kind alone
other_kinds : (b : Body) (j k : Kind) → kind_of b ≡ j → is_kind j k ≡ false → kind_of b ≡ k → ⊥
other_kinds b j k e off f = false≢true (sym off ∙ sym (ap (λ x. is_kind x k) e) ∙ ap (λ x. is_kind x k) f ∙ same k)
  where
    same : (k : Kind) → is_kind k k ≡ true
    same kind.File = refl
    same _ = refl

-- ---- sizes and texts

pub file_size : (b : Body) → kind_of b ≡ kind.File → size_of b ≡ length (bytes_of b)
file_size (file bytes) e = refl
file_size _ e = absurd (cc)

link_kind : (b : Body) → is_some (text_of b) ≡ true → kind_of b ≡ kind.Link
link_kind (link text) e = refl
link_kind _ e = absurd (false≢true e)

no_bytes : (b : Body) → (kind_of b ≡ kind.File → ⊥) → bytes_of b ≡ []
no_bytes (file bytes) h = absurd (h refl)
no_bytes _ h = refl

no_text : (b : Body) → (kind_of b ≡ kind.Link → ⊥) → text_of b ≡ None
no_text (link text) h = absurd (h refl)
no_text _ h = refl

-- nodes of one kind are alike where, being files, they have the same bytes, and, being links, the same text
pub alike_by : (n m : Node) → kind_of m.body ≡ kind_of n.body → (kind_of n.body ≡ kind.File → bytes_of m.body ≡ bytes_of n.body) →
    (kind_of n.body ≡ kind.Link → text_of m.body ≡ text_of n.body) → AreAlike n m
alike_by n m same files links = record { kind = same; bytes = by_bytes (kind_of n.body) refl; text = by_text (kind_of n.body) refl }
  where
    off_file : (j : Kind) → kind_of n.body ≡ j → is_kind j kind.File ≡ false → bytes_of m.body ≡ bytes_of n.body
    off_file j e off =
        no_bytes m.body (other_kinds m.body j kind.File (same ∙ e) off) ∙ sym (no_bytes n.body (other_kinds n.body j kind.File e off))

    off_link : (j : Kind) → kind_of n.body ≡ j → is_kind j kind.Link ≡ false → text_of m.body ≡ text_of n.body
    off_link j e off =
        no_text m.body (other_kinds m.body j kind.Link (same ∙ e) off) ∙ sym (no_text n.body (other_kinds n.body j kind.Link e off))

    by_bytes : (k : Kind) → kind_of n.body ≡ k → bytes_of m.body ≡ bytes_of n.body
    by_bytes kind.File e = files e
    by_bytes kind.Dir e = off_file kind.Dir e refl
    by_bytes kind.Link e = off_file kind.Link e refl
    by_bytes kind.Other e = off_file kind.Other e refl

    by_text : (k : Kind) → kind_of n.body ≡ k → text_of m.body ≡ text_of n.body
    by_text kind.Link e = links e
    by_text kind.Dir e = off_link kind.Dir e refl
    by_text kind.File e = off_link kind.File e refl
    by_text kind.Other e = off_link kind.Other e refl

-- ---- copies

-- a node stands there, and is alike
pub record CopyAt (n : Node) (after : Option Node) : Type 0 where
  pub node : Node
  pub there : after ≡ Some node
  pub alike : AreAlike n node

-- the body of the node there
record HasBody (o : Option Node) (b : Body) : Type 0 where
  node : Node
  there : o ≡ Some node
  body : node.body ≡ b

has_body : (o : Option Node) (b : Body) → body_of o ≡ Some b → HasBody o b
has_body None b e = absurd (cc)
has_body (Some m) b e = record { node = m; there = refl; body = cc }

pub copy_alike : (n : Node) (st : Stat) → kind_of n.body ≡ st.kind → (target after : Option Node) → IsCopyOf st.kind (Some n) target after →
    clashes (Some st) target ≡ false → CopyAt n after
copy_alike n st own target after copy free = by st.kind own target copy (λ m is. fits m (ap (clashes (Some st)) (sym is) ∙ free))
  where
    fits : (m : Node) → not (is_kind (kind_of m.body) st.kind) ≡ false → kind_of m.body ≡ st.kind
    fits m e = kind_eq (kind_of m.body) st.kind (not-false (is_kind (kind_of m.body) st.kind) e)

    dirs : kind_of n.body ≡ kind.Dir → (m : Node) → kind_of m.body ≡ kind.Dir → AreAlike n m
    dirs e m d = alike_by n m (d ∙ sym e) (λ f. absurd (other_kinds n.body kind.Dir kind.File e refl f))
        (λ f. absurd (other_kinds n.body kind.Dir kind.Link e refl f))

    links : (a : Option Node) → is_some (text_of n.body) ≡ true → link_at a ≡ text_of n.body → CopyAt n a
    links None s c = absurd (false≢true (ap is_some c ∙ s))
    links (Some m) s c =
        let e = link_kind n.body s in
        record {
          node = m;
          there = refl;
          alike = alike_by n m (link_kind m.body (ap is_some c ∙ s) ∙ sym e) (λ f. absurd (other_kinds n.body kind.Link kind.File e refl f)) (λ _. c);
        }

    by : (k : Kind) → kind_of n.body ≡ k → (o : Option Node) → IsCopyOf k (Some n) o after → ((m : Node) → o ≡ Some m → kind_of m.body ≡ k) →
        CopyAt n after
    by kind.Dir e None c free =
        let b = has_body after (dir 0) c in record { node = b.node; there = b.there; alike = dirs e b.node (ap kind_of b.body) }
    by kind.Dir e (Some m) c free = record { node = m; there = c; alike = dirs e m (free m refl) }
    by kind.File e o c free =
        let b = has_body after (file (content (Some n))) c in
        record {
          node = b.node;
          there = b.there;
          alike = alike_by n b.node (ap kind_of b.body ∙ sym e) (λ _. ap bytes_of b.body)
              (λ f. absurd (other_kinds n.body kind.File kind.Link e refl f));
        }
    by kind.Link e o c free = links after c.0 c.1
    by kind.Other e o c free = absurd c

-- an entry that came to `Done` clashes with nothing
pub free_of : (before after : Files) (pairs : List Pair) (rows : List (List ℕ × Fate)) (e : Entry) → IsCopied before after pairs rows e fate.Done →
    clashes e.stat (get before (target_of pairs e.path)) ≡ false
free_of before after pairs rows e h = by h.fate_of
  where
    no_clash : (a b c clash untold : Bool) →
        fate.Done ≡ or_else (cond a (Some fate.TooLong) (cond b (Some fate.ParentFailed) (cond c (Some fate.Skipped) None)))
        (cond clash fate.Conflict (cond untold fate.Changed fate.Done)) → clash ≡ false
    no_clash true b c clash untold e = absurd (cc)
    no_clash false true c clash untold e = absurd (cc)
    no_clash false false true clash untold e = absurd (cc)
    no_clash false false false true untold e = absurd (cc)
    no_clash false false false false untold e = refl

    by : (fate.Done ≡ due before pairs rows e) ⊎ ((fate.Done ≡ fate.Failed) × (Rattle.tree_copy.specs.Copying.may_fail (due before pairs rows e) ≡ true)) →
        clashes e.stat (get before (target_of pairs e.path)) ≡ false
    by (inl d) = no_clash (nat_lt 4095 (length (target_of pairs e.path))) (parent_failed pairs rows (target_of pairs e.path)) (is_of kind.Other e.stat)
        (clashes e.stat (get before (target_of pairs e.path))) (is_untold e) d
    by (inr d) = absurd (different d.0)
      where
        different : fate.Done ≡ fate.Failed → ⊥
        different e = absurd (cc)
