use Rattle.commands.specs.declared.action.Action.TheVariants.{Check, Run, Fleet, Search, Explain, Replace, Make, New, Draw}
use Rattle.commands.proofs.ExplainedScripts.{quiet_result}
use Rattle.commands.proofs.JobAnswers.{drawn_alone, drawn_over, explained_alone, explained_over, of_action}
use Rattle.commands.proofs.performing.answer.Goals as goal

pub returns-in-Check-clause-answers : goal.returns-in-Check-clause-answers
returns-in-Check-clause-answers g c = of_action Check c.in-Check.is c.check.ensures.answers

pub returns-in-Run-clause-answers : goal.returns-in-Run-clause-answers
returns-in-Run-clause-answers g c = of_action Run c.in-Run.is c.use_script.ensures.answers

pub returns-in-Fleet-clause-answers : goal.returns-in-Fleet-clause-answers
returns-in-Fleet-clause-answers g c = of_action Fleet c.in-Fleet.is c.use_script-in-Fleet.ensures.answers

pub returns-in-Search-clause-answers : goal.returns-in-Search-clause-answers
returns-in-Search-clause-answers g c = of_action Search c.in-Search.is c.search.ensures.answers

pub returns-in-Some-clause-answers : goal.returns-in-Some-clause-answers
returns-in-Some-clause-answers g c =
    of_action Explain c.in-Explain.is (explained_over c.in-Some.is (record { explains = c.explain_script.ensures.answers; quiet = quiet_result c.explain_script.result c.explain_script.ensures.quiet }))

pub returns-in-None-clause-answers : goal.returns-in-None-clause-answers
returns-in-None-clause-answers g c = of_action Explain c.in-Explain.is (explained_alone c.in-None.is c.explain.ensures.answers)

pub returns-in-Replace-clause-answers : goal.returns-in-Replace-clause-answers
returns-in-Replace-clause-answers g c = of_action (Replace c.in-Replace.options) c.in-Replace.is c.replaced.ensures.answers

pub returns-in-Make-clause-answers : goal.returns-in-Make-clause-answers
returns-in-Make-clause-answers g c = of_action (Make c.in-Make.making) c.in-Make.is c.make.ensures.answers

pub returns-in-New-clause-answers : goal.returns-in-New-clause-answers
returns-in-New-clause-answers g c = of_action New c.in-New.is c.begun.ensures

pub returns-in-Some-script-clause-answers : goal.returns-in-Some-script-clause-answers
returns-in-Some-script-clause-answers g c = of_action Draw c.in-Draw.is (drawn_over c.in-Some-script.is c.use_script-in-Some-script.ensures.answers)

pub returns-in-None-script-clause-answers : goal.returns-in-None-script-clause-answers
returns-in-None-script-clause-answers g c = of_action Draw c.in-Draw.is (drawn_alone c.in-None-script.is c.drawn.ensures.answers)
