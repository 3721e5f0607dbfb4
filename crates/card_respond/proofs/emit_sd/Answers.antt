-- Each response is its own: the encoder cuts index, status and voltage to their fields, as the format does.
use Rattle.std.proofs.Common.{ℕ, [], ◌∷◌, sym, refl, ap, ap₂, ◌∙◌, arith, rules, eq-eqb, ne_eqb}
use lib.Bits.{and_mask, mask_lt}
use Rattle.codec.specs.Format.{image}
use Rattle.wire_response.specs.Response.{r1, r2_bytes, r6, r7}
use Rattle.wire_response.specs.Status.{short_status}
use Rattle.card.specs.Frame as Frame
use Rattle.card.specs.Step.{wire, reply_of}
use Rattle.card_respond.specs.Sent.{message_by}
use Rattle.card_respond.proofs.Sending.{sends, sends-r2, fits-r1, fits-r3, fits-r6, fits-r7, image-r1, image-r7, short_cut, shows, shows-silence}
use Rattle.card_respond.proofs.emit_sd.Goals as goal

pub returns-in-Nothing : goal.returns-in-Nothing
unfolding wire reply_of
returns-in-Nothing c = shows-silence _ _ _ (ap (message_by c.args.c c.args.index c.args.word) c.in-Nothing.is)

pub returns-in-R1 : goal.returns-in-R1
unfolding wire reply_of
returns-in-R1 c =
    let a = c.args in
    shows _ _ (Frame.r1 _ _) (ap (message_by a.c a.index a.word) c.in-R1.is) _ _ _ _ refl refl
    (sends _ _ _ _ _ c.encode_r1.result _ c.encode_r1.ensures c.requires
    (fits-r1 _ _ (mask_lt a.index 6) (omega (arith, c.shown.ensures)))
    (ap₂ (λ (i s : ℕ). image (r1 i) (s ∷ [])) (and_mask a.index 6) c.shown.ensures ∙ image-r1 a.index _)
    c.into.ensures)

pub returns-in-R6 : goal.returns-in-R6
unfolding wire reply_of
returns-in-R6 c =
    let a = c.args in
    shows _ _ (Frame.r6 _ _) (ap (message_by a.c a.index a.word) c.in-R6.is) _ _ _ _ refl refl
    (sends _ _ _ _ _ c.encode_r6.result _ c.encode_r6.ensures c.requires
    (fits-r6 _ _ (omega arith) c.short_status.type_inv)
    (ap (λ (n : ℕ). image r6 (a.c.bus.rca ∷ (n ∷ []))) (c.short_status.ensures ∙ ap short_status c.shown-in-R6.ensures ∙ short_cut _))
    c.into-in-R6.ensures)

pub returns-in-Cid : goal.returns-in-Cid
unfolding wire reply_of
returns-in-Cid c =
    let a = c.args in
    shows _ _ (Frame.plain _) (ap (message_by a.c a.index a.word) c.in-Cid.is) _ _ _ _ (ap r2_bytes (sym c.sixteen.ensures)) refl
    (sends-r2 _ _ _ c.encode_r2.result _ c.encode_r2.ensures (search rules) c.requires c.into-in-Cid.ensures)

pub returns-in-Csd : goal.returns-in-Csd
unfolding wire reply_of
returns-in-Csd c =
    let a = c.args in
    shows _ _ (Frame.plain _) (ap (message_by a.c a.index a.word) c.in-Csd.is) _ _ _ _ (ap r2_bytes (sym c.sixteen-in-Csd.ensures)) refl
    (sends-r2 _ _ _ c.encode_r2-in-Csd.result _ c.encode_r2-in-Csd.ensures (search rules) c.requires c.into-in-Csd.ensures)

pub returns-in-R3 : goal.returns-in-R3
unfolding wire reply_of
returns-in-R3 c =
    let a = c.args in
    shows _ _ (Frame.plain _) (ap (message_by a.c a.index a.word) c.in-R3.is) _ _ _ _ refl refl
    (sends _ _ _ _ _ c.encode_r3.result _ c.encode_r3.ensures c.requires (fits-r3 _ (grind arith)) refl c.into-in-R3.ensures)

pub returns-then-voltage-eq0 : goal.returns-then-voltage-eq0
unfolding wire reply_of
returns-then-voltage-eq0 c =
    let a = c.args in
    shows-silence _ _ _ (ap (message_by a.c a.index a.word) c.in-R7.is ∙ rw (eq-eqb c.in-R7.voltage 0 c.if-voltage-eq0.true))

pub returns-else-voltage-eq0 : goal.returns-else-voltage-eq0
unfolding wire reply_of
returns-else-voltage-eq0 c =
    let a = c.args in
    let v = c.in-R7.voltage in
    shows _ _ (Frame.plain _) (ap (message_by a.c a.index a.word) c.in-R7.is ∙ rw (ne_eqb v 0 c.if-voltage-eq0.false)) _ _ _ _ refl refl
    (sends _ _ _ _ _ c.encode_r7.result _ c.encode_r7.ensures c.requires (fits-r7 _ _ (mask_lt v 4) (grind arith))
    (ap (λ (x : ℕ). image r7 (x ∷ (c.in-R7.pattern ∷ []))) (and_mask v 4) ∙ image-r7 v c.in-R7.pattern)
    c.into-else-voltage-eq0.ensures)
