use Rattle.entry_pages.proofs.Prelude.{◌<◌, ℕ, List, length, subst, sym, false, Fine, Head, Slim, Nothing}
use Rattle.entry_pages.proofs.Slimmed.{lead_next}
use Rattle.entry_pages.proofs.heads.Leads.pass.Goals as goal

pub invariant_of-self : goal.invariant_of-self
invariant_of-self c =
    let blank : Slim = record { size = 0; mtime = 0; shared = 0; rest = 0; shown = Nothing; timed = false; mark = Fine; odd = false } in
    let lt = subst (λ (v : List Head × ℕ). v.1 < length v.0) (sym c.self.view_is) c.requires in
    (lead_next blank c.odd_at-odd.result c.self.invariant lt c.odd_at-odd.ensures).next _ c.gone_after-self-inside.ensures
