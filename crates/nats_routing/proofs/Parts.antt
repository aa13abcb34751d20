-- The parts make the text.
use Rattle.std.proofs.Common.{◌≡◌, ℕ, List, [], ◌∷◌, ◌++◌, refl, ap, sym, append_assoc, append-nil}
use Rattle.std.specs.Prelude.{codes}
use Rattle.nats_routing.specs.Texts.{crlf}

regroup : (a b c d e f g h i j : List ℕ)
    → a ++ b ++ c ++ d ++ e ++ f ++ g ++ h ++ i ++ j ≡ a ++ (b ++ (c ++ (d ++ (e ++ (f ++ (g ++ (h ++ (i ++ j))))))))
regroup a b c d e f g h i j = simp append_assoc

pub msg_parts : (out word subject respond space number count payload a b d e : List ℕ)
    → respond ++ space ≡ word → a ≡ subject → b ≡ number → d ≡ count → e ≡ payload
    → out ++ (codes "MSG " ++ (a ++ (codes " " ++ (b ++ (codes " " ++ (respond ++ (space ++ (d ++ (crlf ++ (e ++ (crlf ++ [])))))))))))
    ≡ out ++ (codes "MSG " ++ subject ++ codes " " ++ number ++ codes " " ++ word ++ count ++ crlf ++ payload ++ crlf)
msg_parts out word subject respond space number count payload a b d e is p q r s =
    ap (λ (l : List ℕ). out ++ l) (rw (← is, p, q, r, s, regroup (codes "MSG ") subject (codes " ") number (codes " ") (respond ++ space) count crlf payload crlf, append_assoc respond space _) refl)

regroup_more : (a b c d e f g h i j k l m : List ℕ)
    → a ++ b ++ c ++ d ++ e ++ f ++ g ++ h ++ i ++ j ++ k ++ l ++ m ≡ a ++ (b ++ (c ++ (d ++ (e ++ (f ++ (g ++ (h ++ (i ++ (j ++ (k ++ (l ++ m)))))))))))
regroup_more a b c d e f g h i j k l m = simp append_assoc

pub hmsg_parts : (out word subject respond space number h total block payload a b d e f : List ℕ)
    → respond ++ space ≡ word → a ≡ subject → b ≡ number → d ≡ h → e ≡ total → f ≡ payload
    → out ++ (codes "HMSG " ++ (a ++ (codes " " ++ (b ++ (codes " " ++ (respond ++ (space ++ (d ++ (codes " " ++ (e ++ (crlf ++ (block ++ (f ++ (crlf ++ []))))))))))))))
    ≡ out ++ (codes "HMSG " ++ subject ++ codes " " ++ number ++ codes " " ++ word ++ h ++ codes " " ++ total ++ crlf ++ block ++ payload ++ crlf)
hmsg_parts out word subject respond space number h total block payload a b d e f is p q r s t =
    ap (λ (l : List ℕ). out ++ l) (rw (← is, p, q, r, s, t, regroup_more (codes "HMSG ") subject (codes " ") number (codes " ") (respond ++ space) h (codes " ") total crlf block payload crlf, append_assoc respond space _) refl)
