use Rattle.std.proofs.Common.{◌≡◌, Some, ap, option_map, refl}
use Rattle.mw_lex.specs.declared.token.Token.{Token}
use Rattle.std.specs.Prelude.{List}
use Rattle.mw_command.specs.Commands.{seen_command}
use Rattle.mw_top.specs.Commands.{matching, undivided, in_sides}
use Rattle.mw_top.proofs.Giving.{match_both, none_there}
use Rattle.mw_top.proofs.replies.match_reply.Goals as goal

pub returns-in_default : goal.returns-in_default
returns-in_default c = undivided c.args.inside c.requires (none_there (λ ts. ts.now) c.args.command.now.subject _ c.in_default.not-Some refl)

pub returns : goal.returns
returns c =
    let behind : List Token = c.in-Some.subject.now in
    let at : (seen_command c.args.command.now).subject ≡ Some behind = ap (option_map (λ ts. ts.now)) c.in-Some.is in
    match_both c.in_ok-reply.reply c.in_ok-reply.ensures
    (λ text h. let (p, t, are, matched) = h in matching c.args.inside behind p t text.items c.requires at are matched)
    (λ kind fault. in_sides kind c.args.inside behind c.requires at fault)
