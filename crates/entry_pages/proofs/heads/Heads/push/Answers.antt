use Rattle.entry_pages.proofs.Prelude.{◌∙◌, ap, List, ℕ, [], ◌∷◌, ◌++◌, Head, starts_by, with_text, target_bytes}
use Rattle.entry_pages.proofs.Slimmed.{ArePut, put_slim, put_heads}
use Rattle.entry_pages.proofs.heads.Heads.push.Goals as goal
use Rattle.entry_pages.proofs.heads.Heads.push.Goals.{After-put_target}

-- the parts of the head are put behind those of the others
are_put : (c : After-put_target) → let h = c.self.inside in
    ArePut h.slims.items c.put_slim.new.slims.items h.odds.items c.put_slim.new.odds.items h.starts.items c.put_slim.new.starts.items
    h.texts.items c.put_target.new.texts.items h.text_starts.items c.put_start.new.starts.items (with_text c.args.head c.args.target.now)
are_put c =
    let h = c.self.inside in
    record {
      slims = c.in_ok-put_slim.ensures.slims;
      odds = c.in_ok-put_slim.ensures.odds;
      odds_begin = c.in_ok-put_slim.ensures.starts;
      texts = c.put_target.ensures ∙ ap (λ (v : List ℕ). v ++ target_bytes c.args.target.now) c.reserve_target.ensures.same;
      texts_begin = c.put_start.ensures
          ∙ (λ i. starts_by ((c.len-place.ensures ∙ h.slims.ok.0) i) ((c.len-at.ensures ∙ h.texts.ok.0) i) (c.reserve.ensures.items i));
      valid = c.put_slim.ensures.valid;
    }

pub invariant_of-self-2 : goal.invariant_of-self-2
invariant_of-self-2 c = put_slim c.self.invariant (are_put (goal.at.invariant_of-self-2 c).After-put_target)

pub returns-clause-ok : goal.returns-clause-ok
returns-clause-ok c = put_heads c.self.invariant (are_put (goal.at.returns-clause-ok c).After-put_target)
    ∙ ap (λ (v : List Head). v ++ with_text c.args.head c.args.target.now ∷ []) c.self.view_is
