use Rattle.entry_pages.proofs.Prelude.{◌≡◌, ◌∙◌, ◌<◌, ℕ, List, length, subst, sym, ap, false, Some, slice_get, option_map, Fine, Head, Slim, Nothing, with_text}
use Rattle.entry_pages.proofs.Slimmed.{lead_next}
use Rattle.entry_pages.proofs.heads.Leads.next.Goals as goal

pub text_at-requires-clause-room : goal.text_at-requires-clause-room
text_at-requires-clause-room c =
    let blank : Slim = record { size = 0; mtime = 0; shared = 0; rest = 0; shown = Nothing; timed = false; mark = Fine; odd = false } in
    let lt = subst (λ (v : List Head × ℕ). v.1 < length v.0) (sym c.self.view_is) c.requires in
    (lead_next blank c.odd_at-odd.result c.self.invariant lt c.odd_at-odd.ensures).room

pub text_at-requires-clause-valid : goal.text_at-requires-clause-valid
text_at-requires-clause-valid c =
    let blank : Slim = record { size = 0; mtime = 0; shared = 0; rest = 0; shown = Nothing; timed = false; mark = Fine; odd = false } in
    let lt = subst (λ (v : List Head × ℕ). v.1 < length v.0) (sym c.self.view_is) c.requires in
    (lead_next blank c.odd_at-odd.result c.self.invariant lt c.odd_at-odd.ensures).valid

pub returns-clause-next : goal.returns-clause-next
returns-clause-next c =
    let blank : Slim = record { size = 0; mtime = 0; shared = 0; rest = 0; shown = Nothing; timed = false; mark = Fine; odd = false } in
    let lt = subst (λ (v : List Head × ℕ). v.1 < length v.0) (sym c.self.view_is) c.requires in
    let next = lead_next blank c.odd_at-odd.result c.self.invariant lt c.odd_at-odd.ensures in
    subst (λ (v : List Head × ℕ). slice_get v.0 v.1 ≡ Some (with_text c.told.result (option_map (λ t. t.now) c.text_at.result))) c.self.view_is
    (next.here ∙ ap Some (λ i. with_text (sym c.told.ensures i) (sym c.text_at.ensures.text i)))
