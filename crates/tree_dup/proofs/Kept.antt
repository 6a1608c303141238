-- A class becomes a group, or is left out.
use Rattle.tree_dup.proofs.Prelude.{◌≡◌, ℕ, ◌≤◌, List, [], ◌∷◌, ◌++◌, length, map, Option, All, IsPermutation, IsSorted, sym, ap, subst, ◌∙◌, append_assoc}
use Rattle.tree_dup.proofs.Prelude.{map-append, All-cons, All-head, All-tail, All-push, path_cmp, Files, Entry, Told, Grouping, File, paths_of, IsHashed}
use Rattle.tree_dup.proofs.Prelude.{IsMade, AreMissed, AreSifted, misses, piles_of}
use Rattle.tree_dup.proofs.Parted.{AreParted, Piles, parted_left}
use Rattle.tree_dup.proofs.Classes.{IsClass, class_parted, class_missed, class_made, left_hashed}

module _ (tree : Option Files) (list : List Entry) (size hash : ℕ) (digest : List ℕ) (run run' : List File) (paths : List (List ℕ)) (left : List File)
    (found found' : Grouping)
    (c : IsClass tree size hash digest run run' paths left found found') (others : List (List File)) (s : AreSifted tree list (run ∷ others) found) where
  hashed : All (IsHashed tree list) run
  hashed = All-head (λ pile. All (IsHashed tree list) pile) run others s.hashed

  rest : All (λ pile. All (IsHashed tree list) pile) (left ∷ others)
  rest = All-cons (λ pile. All (IsHashed tree list) pile) left others (left_hashed tree list size hash digest run run' paths left found found' c hashed)
      (All-tail (λ pile. All (IsHashed tree list) pile) run others s.hashed)

  parted : (sorted : List (List ℕ)) → IsPermutation paths sorted →
      AreParted tree list (misses found') (piles_of found.groups ++ sorted ∷ (paths_of left ∷ map paths_of others))
  parted sorted moved = class_parted tree list size hash digest run run' paths left found found' c hashed others sorted moved
      (record { once = s.once; undivided = s.undivided })

  -- one path or none
  pub class_left_out : IsPermutation paths paths → length paths ≤ 1 → AreSifted tree list (left ∷ others) found'
  class_left_out moved short =
      let groups : found.groups ≡ found'.groups = sym c.dealt.groups in
      let p : AreParted tree list (misses found') (piles_of found'.groups ++ (paths_of left ∷ map paths_of others)) =
      subst (λ gs. AreParted tree list (misses found') (piles_of gs ++ (paths_of left ∷ map paths_of others))) groups
      (parted_left tree list (misses found') (piles_of found.groups) paths (paths_of left ∷ map paths_of others) short (parted paths moved)) in
      record {
        hashed = rest;
        missed = class_missed tree list size hash digest run run' paths left found found' c hashed s.missed;
        made = subst (All (IsMade tree list)) groups s.made;
        once = p.once;
        undivided = p.undivided;
      }

  -- two paths or more, in path order
  pub class_kept : (g : Told) (found'' : Grouping) → found'' ≡ record found' { groups = found'.groups ++ g ∷ [] } → IsPermutation paths g.paths →
      IsSorted path_cmp g.paths → 2 ≤ length g.paths → g.size ≡ size → g.digest ≡ digest → AreSifted tree list (left ∷ others) found''
  class_kept g found'' e moved up some sized has_digest =
      subst (AreSifted tree list (left ∷ others)) (sym e)
      (record {
        hashed = rest;
        missed = record { failed = missed.failed; changed = missed.changed; unchanged = missed.unchanged };
        made = subst (λ gs. All (IsMade tree list) (gs ++ g ∷ [])) (sym c.dealt.groups) (All-push (IsMade tree list) found.groups g s.made
            (class_made tree list size hash digest run run' paths left found found' c hashed g moved up some sized has_digest));
        once = there.once;
        undivided = there.undivided;
      })
    where
      missed : AreMissed tree list found'
      missed = class_missed tree list size hash digest run run' paths left found found' c hashed s.missed

      where_piles : piles_of (found'.groups ++ g ∷ []) ++ (paths_of left ∷ map paths_of others)
          ≡ piles_of found.groups ++ g.paths ∷ (paths_of left ∷ map paths_of others)
      where_piles =
          ap (λ (gs : List Told). piles_of (gs ++ g ∷ []) ++ (paths_of left ∷ map paths_of others)) c.dealt.groups
          ∙ ap (λ (ps : Piles). ps ++ (paths_of left ∷ map paths_of others)) (map-append (λ (h : Told). h.paths) found.groups (g ∷ []))
          ∙ append_assoc (piles_of found.groups) (g.paths ∷ []) (paths_of left ∷ map paths_of others)

      there : AreParted tree list (misses found') (piles_of (found'.groups ++ g ∷ []) ++ (paths_of left ∷ map paths_of others))
      there = subst (AreParted tree list (misses found')) (sym where_piles) (parted g.paths moved)
