-- A file that is filled piece by piece.
use Rattle.tree_copy.proofs.Prelude.{◌≡◌, ℕ, zero, suc, ◌+◌, List, [], ◌∷◌, ◌++◌, length, take, drop, Option, Some, None, IfSome, refl, ap, ◌∙◌, sym, subst}
use Rattle.tree_copy.proofs.Prelude.{arith, is_some, length-append, false≢true, length-take-le, take_all, drop_all, get, Files, file, content, Reads, SameBut}
use Rattle.tree_copy.proofs.Prelude.{new_file, written, spliced, time_of, write_refusal, HasFile, Holds, both_told}
use Rattle.std.proofs.lemmas.List.{append-nil}
use Rattle.tree_copy.proofs.Puts.{put_here, put_others, answered}

take_none : (n : ℕ) → take {A = ℕ} n [] ≡ []
take_none zero = refl
take_none (suc n) = refl

take_on : (a b : ℕ) (xs : List ℕ) → take a xs ++ take b (drop a xs) ≡ take (a + b) xs
take_on zero b xs = ap (λ k. take k xs) (omega arith)
take_on (suc a) b [] = take_none b ∙ sym (take_none (suc a + b))
take_on (suc a) b (x ∷ xs) = ap (λ r. x ∷ r) (take_on a b xs) ∙ ap (λ k. take k (x ∷ xs)) (sym (plus a b))
  where
    plus : (a b : ℕ) → suc a + b ≡ suc (a + b)
    plus a b = omega arith

at_end : (old bytes : List ℕ) (at : ℕ) → length old ≡ at → spliced old at bytes ≡ old ++ bytes
at_end old bytes at e =
    ap (λ r. (r ++ bytes) ++ drop (at + length bytes) old) (take_all at old (omega (arith, e)))
    ∙ ap (λ r. (old ++ bytes) ++ r) (drop_all (at + length bytes) old (omega (arith, e))) ∙ append-nil (old ++ bytes)

wrote_here : (path bytes old : List ℕ) (at : ℕ) (now : Files) → get now path ≡ Some (new_file old) → length old ≡ at →
    get (written now path at bytes) path ≡ Some (new_file (old ++ bytes))
wrote_here path bytes old at now has len =
    put_here path _ now ∙ ap (λ o. Some (record { body = file (spliced (content o) at bytes); mtime = time_of o })) has
    ∙ ap (λ b. Some (new_file b)) (at_end old bytes at len)

-- the piece was written
abbrev pub Wrote : List ℕ → ℕ → List ℕ → (t t' : Option Files) → Type 0
Wrote path at bytes t t' = IfSome t (λ files. (write_refusal (get files path) ≡ None) × (t' ≡ Some (written files path at bytes)))

pub file_more : (path bytes : List ℕ) (at count : ℕ) (t t' : Option Files) → length bytes ≡ count → is_some t' ≡ is_some t → IfSome t (HasFile path at) →
    Wrote path at bytes t t' → IfSome t' (HasFile path (at + count))
file_more path bytes at count None None l tells h w = tt
file_more path bytes at count None (Some next) l tells h w = absurd (false≢true (sym tells))
file_more path bytes at count (Some now) t' l tells h w = subst (λ o. IfSome o (HasFile path (at + count))) (sym w.1) (record {
  bytes = h.bytes ++ bytes;
  has = wrote_here path bytes h.bytes at now h.has h.len;
  len = omega (arith, length-append h.bytes bytes, h.len, l);
})

pub others_more : (path bytes : List ℕ) (at : ℕ) (t0 t t' : Option Files) → is_some t ≡ is_some t0 → IfSome t0 (λ a. IfSome t (SameBut path a)) →
    Wrote path at bytes t t' → IfSome t0 (λ a. IfSome t' (SameBut path a))
others_more path bytes at t0 t t' tells s w =
    both_told (SameBut path) (SameBut path) (SameBut path) t0 t t' tells (λ a b c u v q off. v q off ∙ u q off) s
    (answered (λ files. write_refusal (get files path)) (λ files. written files path at bytes) (SameBut path) t t' (λ files r. put_others path _ files) w)

pub holds_more : (source path buffer : List ℕ) (at count : ℕ) (told t t' : Option Files) → IfSome told (λ seen. Reads seen source at buffer count) →
    is_some t' ≡ is_some t → IfSome told (λ seen. IfSome t (Holds seen source path at)) → Wrote path at (take count buffer) t t' →
    IfSome told (λ seen. IfSome t' (Holds seen source path (at + count)))
holds_more source path buffer at count None t t' reads tells h w = tt
holds_more source path buffer at count (Some seen) None None reads tells h w = tt
holds_more source path buffer at count (Some seen) None (Some next) reads tells h w = absurd (false≢true (sym tells))
holds_more source path buffer at count (Some seen) (Some now) t' reads tells h w =
    subst (λ o. IfSome o (Holds seen source path (at + count))) (sym w.1) (record {
      inside = omega (arith, reads.inside, h.inside);
      has = wrote_here path (take count buffer) (take at bytes) at now h.has (length-take-le at bytes h.inside)
          ∙ ap (λ piece. Some (new_file (take at bytes ++ piece))) reads.same ∙ ap (λ b. Some (new_file b)) (take_on at count bytes);
    })
  where
    bytes : List ℕ
    bytes = content (get seen source)
