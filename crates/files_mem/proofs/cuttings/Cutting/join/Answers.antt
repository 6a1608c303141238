use Rattle.files_mem.proofs.Prelude.{◌≡◌, true, ap, ◌∙◌, sym, subst, arith, length, ◌∷◌, [], sum_by, IsPart, is_file, content, Piece, pieces, Cut, Spanned}
use Rattle.files_mem.proofs.Prelude.{bytes_of_all, get}
use Rattle.files_mem.proofs.Spanning.{sizes}
use Rattle.files_mem.proofs.CutOut.{set_part, set_node}
use Rattle.files_mem.proofs.cuttings.Cutting.join.Goals as goal

pub fill-requires-clause-room : goal.fill-requires-clause-room
fill-requires-clause-room c =
    let same = ap (λ (k : Cut). sum_by (λ (p : Piece). p.size) (pieces k.path k.cuts)) c.self.view_is
    ∙ ap (sum_by (λ (p : Piece). p.size)) c.requires ∙ sizes c.args.spans.items
    ∙ ap (sum_by (λ (s : Spanned). length s.bytes)) (sym c.deref.ensures.value) in
    omega (arith, same, c.self.invariant.2)

pub returns-clause-part : goal.returns-clause-part
returns-clause-part c =
    subst (λ p. IsPart (p ∷ []) c.set_bytes.new.self) (ap (λ (k : Cut). k.path) c.self.view_is)
    (set_part c.self.inside.path c.self.inside.tops c.self.inside.store c.set_bytes.new.self c.fill.new.room.items c.self.invariant.0
    c.set_bytes.ensures)

pub returns-clause-file : goal.returns-clause-file
returns-clause-file c =
    subst (λ p. is_file (get c.set_bytes.new.self p) ≡ true) (ap (λ (k : Cut). k.path) c.self.view_is)
    (ap is_file (set_node c.self.inside.path c.self.inside.store c.set_bytes.new.self _ c.set_bytes.ensures))

pub returns-clause-bytes : goal.returns-clause-bytes
returns-clause-bytes c =
    subst (λ p. content (get c.set_bytes.new.self p) ≡ bytes_of_all c.args.spans.items) (ap (λ (k : Cut). k.path) c.self.view_is)
    (ap content (set_node c.self.inside.path c.self.inside.store c.set_bytes.new.self _ c.set_bytes.ensures)
    ∙ c.fill.ensures ∙ ap bytes_of_all c.deref.ensures.value)
