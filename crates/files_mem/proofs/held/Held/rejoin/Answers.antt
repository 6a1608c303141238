use Rattle.files_mem.proofs.Prelude.{◌≡◌, ◌≤◌, ◌+◌, ◌∷◌, [], sym, ap, ◌∙◌, arith, length, subst, true, is_some, arc_value, vec_len, vec_capacity, get, laid}
use Rattle.files_mem.proofs.Prelude.{IsPart, pieces, cuts_at, without_cut, IsRejoined, is_file, content, Lending, IsGround, bytes_of_all}
use Rattle.files_mem.proofs.CutOut.{rejoined}
use Rattle.files_mem.proofs.Cuts.{one_cut_less, some_mapped}
use Rattle.files_mem.proofs.Laying.{file_back}
use Rattle.files_mem.proofs.Lending.{whole_ground}
use Rattle.files_mem.proofs.held.Held.rejoin.Goals as goal

pub invariant_of-self : goal.invariant_of-self
invariant_of-self c =
    let path = c.args.path.now in
    let room : length c.self.inside.lent + vec_len c.self.inside.cut + vec_len c.self.inside.back ≤ vec_capacity c.self.inside.back = c.self.invariant in
    let there = some_mapped (pieces path) (cuts_at path c.args.self.now.cut) _ c.requires.pieces in
    let less = one_cut_less path c.self.inside.cut.items
    (subst (λ cut. is_some (cuts_at path cut) ≡ true) (sym (ap (λ (h : Lending). h.cut) c.self.view_is)) there) in
    omega (arith, room, c.put_back.ensures.len, c.put_back.ensures.capacity, less, ap length c.take-cutting.ensures.rest)

pub returns-clause-tree : goal.returns-clause-tree
returns-clause-tree c =
    let path = c.args.path.now in
    let own = c.join-store.result.0 in
    let now = c.args.self.now in
    let bytes = bytes_of_all c.args.spans.items in
    let tops = c.join-store.ensures.tops ∙ ap (λ p. p ∷ []) c.take-cutting.ensures.path in
    let back = file_back c.self.inside.back.items c.put_back.new.places.items (record { tops = c.join-store.result.1; files = own })
    (arc_value c.self.inside.store) c.self.inside.lent c.self.inside.cut.items c.take-cutting.new.out.items path now c.put_back.ensures.items c.self.view_is
    c.take-cutting.ensures.rest in
    subst (IsRejoined path bytes now.files) (sym (ap (λ (h : Lending). h.files) back ∙ ap (λ t. laid t own now.files) tops))
    (rejoined path own now.files bytes (subst (λ p. is_file (get own p) ≡ true) c.take-cutting.ensures.path c.join-store.ensures.file)
    (subst (λ p. content (get own p) ≡ bytes) c.take-cutting.ensures.path c.join-store.ensures.bytes))

pub returns-clause-ground : goal.returns-clause-ground
returns-clause-ground c =
    let path = c.args.path.now in
    let own = c.join-store.result.0 in
    let now = c.args.self.now in
    let tops = c.join-store.ensures.tops ∙ ap (λ p. p ∷ []) c.take-cutting.ensures.path in
    let back = file_back c.self.inside.back.items c.put_back.new.places.items (record { tops = c.join-store.result.1; files = own })
    (arc_value c.self.inside.store) c.self.inside.lent c.self.inside.cut.items c.take-cutting.new.out.items path now c.put_back.ensures.items c.self.view_is
    c.take-cutting.ensures.rest in
    subst IsGround (sym (back ∙ ap (λ t. record now { files = laid t own now.files; cut = without_cut path now.cut }) tops))
    (whole_ground now path own c.requires.ground
    (subst (λ p. IsPart (p ∷ []) own) c.take-cutting.ensures.path c.join-store.ensures.part)
    (some_mapped (pieces path) (cuts_at path now.cut) _ c.requires.pieces))
