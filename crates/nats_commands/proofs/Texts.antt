-- The parts of a text, one after another.
use Rattle.std.proofs.Common.{◌≡◌, ℕ, List, [], ◌++◌, ap, refl, append_assoc, append-nil}
use Rattle.std.specs.Prelude.{codes}
use Rattle.nats_message.specs.Content.{crlf}

regroup : (a b c d e f g h i : List ℕ)
    → a ++ b ++ c ++ d ++ e ++ f ++ g ++ h ++ i ≡ a ++ (b ++ (c ++ (d ++ (e ++ (f ++ (g ++ (h ++ i)))))))
regroup a b c d e f g h i = simp append_assoc

-- the line of a publication with headers and the block, from the parts that are written
hpub_line : (word subject respond space block : List ℕ) (h total : List ℕ) (a b c : List ℕ)
    → respond ++ space ≡ word → a ≡ subject → b ≡ h → c ≡ total
    → codes "HPUB " ++ (a ++ (codes " " ++ (respond ++ (space ++ (b ++ (codes " " ++ (c ++ (crlf ++ (block ++ [])))))))))
    ≡ codes "HPUB " ++ subject ++ codes " " ++ word ++ h ++ codes " " ++ total ++ crlf ++ block
hpub_line word subject respond space block h total a b c is p q r =
    rw (← is, p, q, r, append-nil block, regroup (codes "HPUB ") subject (codes " ") (respond ++ space) h (codes " ") total crlf block, append_assoc respond space _) refl

-- a publication with headers
pub hpub_parts : (out word subject respond space block payload : List ℕ) (h total : List ℕ) (a b c : List ℕ)
    → respond ++ space ≡ word → a ≡ subject → b ≡ h → c ≡ total
    → out ++ ((codes "HPUB " ++ (a ++ (codes " " ++ (respond ++ (space ++ (b ++ (codes " " ++ (c ++ (crlf ++ (block ++ [])))))))))) ++ payload ++ crlf)
    ≡ out ++ (codes "HPUB " ++ subject ++ codes " " ++ word ++ h ++ codes " " ++ total ++ crlf ++ block ++ payload ++ crlf)
hpub_parts out word subject respond space block payload h total a b c is p q r =
    ap (λ (l : List ℕ). out ++ (l ++ payload ++ crlf)) (hpub_line word subject respond space block h total a b c is p q r)
