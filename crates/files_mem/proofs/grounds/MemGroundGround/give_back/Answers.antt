use Rattle.files_mem.proofs.Prelude.{rules, ◌≡◌, sym, ap, ◌∙◌, subst, true, cond, get, in_tops, is_out, tops_of, all_but, under, get_laid, IsGround}
use Rattle.files_mem.proofs.Lending.{back_ground}
use Rattle.files_mem.proofs.grounds.MemGroundGround.give_back.Goals as goal

pub invariant_of-self : goal.invariant_of-self
invariant_of-self c =
    let told : is_out (under c.into_parts-store.result.1) (all_but c.self.inside.held.out c.self.inside.held.cut) ≡ true = search rules in
    subst IsGround (sym c.give_back.ensures)
    (back_ground c.self.inside.held c.into_parts-store.result.1 c.into_parts-store.result.0 c.self.invariant
    c.into_parts-store.ensures.valid told)

pub returns-clause-joins : goal.returns-clause-joins
returns-clause-joins c = λ q.
    ap (λ h. get h.files q) c.give_back.ensures ∙ get_laid c.into_parts-store.result.1 c.into_parts-store.result.0 c.self.inside.held.files q
    ∙ ap (λ t. cond (in_tops t q) (get c.into_parts-store.result.0 q) (get c.self.inside.held.files q)) (ap tops_of c.into_parts-store.ensures.tops)
    ∙ ap (λ s. cond (in_tops (tops_of c.args.part.area) q) (get s q) (get c.self.inside.held.files q)) c.into_parts-store.ensures.store
    ∙ ap (λ m. cond (in_tops (tops_of c.args.part.area) q) (get c.args.part.files q) (get m.files q)) c.self.view_is
