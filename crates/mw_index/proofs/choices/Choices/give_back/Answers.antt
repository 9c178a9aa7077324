use Rattle.mw_index.proofs.choices.Choices.give_back.Goals as goal

pub returns : goal.returns
returns c = λ M m t tried h. record {
  subject = h.subject;
  passed = h.passed;
  passed_others = h.passed_others;
  under_way = λ st own q. let u = h.under_way st own q in record { given = u.given; search = u.search };
}
