use Rattle.entry_pages.proofs.Prelude.{◌∙◌, ℕ, ◌+◌, ◌%◌, ◌++◌, List, length, map, ap, ap₂, arith, Head, odd_count, text_len, heads_of}
use Rattle.entry_pages.proofs.Appended.{Both, starts_fit, all_odds, all_texts, heads_both, slims_put}
use Rattle.entry_pages.proofs.heads.Heads.append.Goals as goal
use Rattle.entry_pages.proofs.heads.Heads.append.Goals.{After-put_shifted-2}

pub put_shifted-requires-clause-fits : goal.put_shifted-requires-clause-fits
put_shifted-requires-clause-fits c =
    let o = c.other.inside in
    starts_fit odd_count (heads_of o.slims.items o.odds.items o.texts.items) o.starts.items _ c.len-base.result c.deref-3.ensures.value
    c.other.invariant.odds_begin
    (omega (arith, c.len-base.ensures, all_odds c.other.invariant, c.self.inside.odds.ok, c.self.inside.odds.small, o.odds.ok, o.odds.small))

pub put_shifted-requires-2-clause-fits : goal.put_shifted-requires-2-clause-fits
put_shifted-requires-2-clause-fits c =
    let o = c.other.inside in
    starts_fit text_len (heads_of o.slims.items o.odds.items o.texts.items) o.text_starts.items _ c.len-text_base.result c.deref-5.ensures.value
    c.other.invariant.texts_begin
    (omega (arith, c.len-text_base.ensures, all_texts c.other.invariant, c.self.inside.texts.ok, c.self.inside.texts.small, o.texts.ok, o.texts.small))

-- each part is put behind its part
both_put : (c : After-put_shifted-2) → let l = c.self.inside in let o = c.other.inside in
    Both l.slims.items o.slims.items c.extend_reserved.new.items.items l.odds.items o.odds.items c.extend_reserved-2.new.items.items
    l.starts.items o.starts.items c.put_shifted.new.starts.items l.texts.items o.texts.items c.extend_reserved-3.new.items.items
    l.text_starts.items o.text_starts.items c.put_shifted-2.new.starts.items c.len-base.result c.len-text_base.result
both_put c = record {
  slims = c.extend_reserved.ensures ∙ ap₂ ◌++◌ c.reserve.ensures.items c.deref.ensures.value;
  odds = c.extend_reserved-2.ensures ∙ ap₂ ◌++◌ c.reserve-2.ensures.items c.deref-2.ensures.value;
  odds_begin = c.put_shifted.ensures ∙ ap₂ (λ (a b : List ℕ). a ++ map (λ s. c.len-base.result + s) b) c.reserve-3.ensures.items c.deref-3.ensures.value;
  texts = c.extend_reserved-3.ensures ∙ ap₂ ◌++◌ c.reserve-4.ensures.items c.deref-4.ensures.value;
  texts_begin =
      c.put_shifted-2.ensures ∙ ap₂ (λ (a b : List ℕ). a ++ map (λ s. c.len-text_base.result + s) b) c.reserve-5.ensures.items c.deref-5.ensures.value;
  odds_base = c.len-base.ensures ∙ c.self.inside.odds.ok.0;
  texts_base = c.len-text_base.ensures ∙ c.self.inside.texts.ok.0;
}

pub invariant_of-self-2 : goal.invariant_of-self-2
invariant_of-self-2 c = slims_put c.self.invariant c.other.invariant (both_put (goal.at.invariant_of-self-2 c).After-put_shifted-2)
    (ap (λ (hs : List Head). length hs % 256) c.self.view_is ∙ c.requires)

pub returns-clause-ok : goal.returns-clause-ok
returns-clause-ok c = heads_both c.self.invariant c.other.invariant (both_put (goal.at.returns-clause-ok c).After-put_shifted-2)
    ∙ ap₂ ◌++◌ c.self.view_is c.other.view_is
