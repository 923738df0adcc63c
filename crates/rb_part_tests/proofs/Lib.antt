mod IndexLaws
mod InjectLaws
